use Rattle.variance_text.proofs.Signs.{sign_room, below_room, below_wrote, above_room, above_wrote}
use borrow.Author.Rules.{rules}
use Rattle.variance_text.proofs.print.put_signed.Goals as goal

pub put_byte-end-requires : goal.put_byte-end-requires
put_byte-end-requires c = search (rules, sign_room)

pub put_decimal-requires : goal.put_decimal-requires
put_decimal-requires c = search (rules, below_room)

pub returns-then-lifted-lt-LIFT : goal.returns-then-lifted-lt-LIFT
returns-then-lifted-lt-LIFT c = search (rules, below_wrote)

pub put_decimal-requires-2 : goal.put_decimal-requires-2
put_decimal-requires-2 c = search (rules, above_room)

pub returns : goal.returns
returns c = search (rules, above_wrote)
