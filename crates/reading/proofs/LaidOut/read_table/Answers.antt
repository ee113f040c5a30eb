use borrow.Author.Rules.{rules}
use Rattle.reading.proofs.Bodies.{head_long, table_number, table_read}
use Rattle.reading.proofs.LaidOut.read_table.Goals as goal

pub offset-body-requires : goal.offset-body-requires
offset-body-requires c = head_long c.args.self.now.laid_out

pub fill_by-requires : goal.fill_by-requires
fill_by-requires c = table_number c.args.self.now.laid_out c.offset-body.ensures _ c.requires

pub returns : goal.returns
returns c = table_read c.args.self.now.laid_out c.offset-body.ensures _ _ c.requires (search rules) (λ i l. search (rules, c.fill_by.ensures i 0 l))
