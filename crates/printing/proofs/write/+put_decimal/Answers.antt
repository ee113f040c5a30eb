use borrow.Author.Rules.{rules}
use Rattle.printing.proofs.Writes.{small_room, small_wrote, tenth_room, last_room, last_wrote}
use Rattle.printing.proofs.write.+put_decimal.Goals as goal

pub put_byte-requires : goal.put_byte-requires
put_byte-requires t c = small_room _ c.requires (search rules)

pub returns-then-x-lt10 : goal.returns-then-x-lt10
returns-then-x-lt10 t c = small_wrote _ c.requires (search rules) c.put_byte.ensures

pub put_decimal-end-requires : goal.put_decimal-end-requires
put_decimal-end-requires t c = (search rules, search (rules, tenth_room))

pub put_byte-requires-2 : goal.put_byte-requires-2
put_byte-requires-2 t c = search (rules, last_room)

pub returns : goal.returns
returns t c = search (rules, last_wrote)
