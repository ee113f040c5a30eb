use Rattle.variance_text.proofs.Rows.{refusal_room}
use Rattle.variance_text.proofs.Answers.{refusal_printed, line_printed}
use borrow.Author.Rules.{rules}
use Rattle.variance_text.proofs.print.print_variances.Goals as goal

pub print_refusal-requires : goal.print_refusal-requires
print_refusal-requires c = search (rules, refusal_room)

pub returns-in-Err : goal.returns-in-Err
returns-in-Err c = refusal_printed _ _ c.in-Err.ensures c.print_refusal.ensures

pub returns-in-Ok : goal.returns-in-Ok
returns-in-Ok c = rw (← c.in-Ok.ensures) (line_printed _ _ c.in-Ok.opened.opens c.measure.ensures c.print_line.ensures)
