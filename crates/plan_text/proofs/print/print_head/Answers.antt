use Rattle.plan_text.proofs.Lines.{rows_fit, columns_fit, arrays_fit, head_line}
use borrow.Author.Rules.{rules}
use Rattle.plan_text.proofs.print.print_head.Goals as goal

pub overflow_cast-numbers : goal.overflow_cast-numbers
overflow_cast-numbers c = search (rules, rows_fit)

pub overflow_cast-numbers-2 : goal.overflow_cast-numbers-2
overflow_cast-numbers-2 c = search (rules, columns_fit)

pub overflow_cast-numbers-3 : goal.overflow_cast-numbers-3
overflow_cast-numbers-3 c = search (rules, arrays_fit)

pub print_numbers-requires : goal.print_numbers-requires
print_numbers-requires c = rw (head_line c.args.plan.now.laid_out) c.requires

pub returns : goal.returns
returns c = rw (head_line c.args.plan.now.laid_out) at c.print_numbers.ensures
