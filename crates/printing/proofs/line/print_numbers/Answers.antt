use borrow.Author.Rules.{rules}
use Rattle.printing.proofs.Lines.{numbers_none, place_room, place_more, end_room, line_wrote}
use Rattle.printing.proofs.line.print_numbers.Goals as goal

pub loop-i-init : goal.loop-i-init
loop-i-init c = search (rules, numbers_none)

pub put_number-end-requires : goal.put_number-end-requires
put_number-end-requires c = search (rules, place_room)

pub loop-i-preserved : goal.loop-i-preserved
loop-i-preserved c = search (rules, place_more)

pub put_bytes-requires : goal.put_bytes-requires
put_bytes-requires c = search (rules, end_room)

pub returns : goal.returns
returns c = search (rules, line_wrote)
