use Rattle.variance_text.proofs.Rows.{number_room, numerators_room, line_wrote}
use borrow.Author.Rules.{rules}
use Rattle.variance_text.proofs.print.print_line.Goals as goal

pub put_decimal-end-requires : goal.put_decimal-end-requires
put_decimal-end-requires c = search (rules, number_room)

pub put_numerators-requires : goal.put_numerators-requires
put_numerators-requires c = search (rules, numerators_room)

pub returns : goal.returns
returns c = search (rules, line_wrote)
