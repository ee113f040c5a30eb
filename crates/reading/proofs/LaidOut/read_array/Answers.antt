use borrow.Author.Rules.{rules}
use Rattle.reading.proofs.Bodies.{array_next, array_entry, array_number, array_read}
use Rattle.reading.proofs.LaidOut.read_array.Goals as goal

pub overflow_add-k : goal.overflow_add-k
overflow_add-k c = array_next c.args.self.now.laid_out c.requires.there

pub offset-body-requires : goal.offset-body-requires
offset-body-requires c = array_entry c.args.self.now.laid_out c.requires.there

pub fill_by-requires : goal.fill_by-requires
fill_by-requires c = array_number c.args.self.now.laid_out c.requires.there c.offset-body.ensures _ c.requires.room

pub returns : goal.returns
returns c = array_read c.args.self.now.laid_out c.requires.there c.offset-body.ensures _ _ c.requires.room (search rules) (λ i l. search (rules, c.fill_by.ensures i 0 l))
