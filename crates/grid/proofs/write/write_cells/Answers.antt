use Rattle.grid.proofs.CellWrites.{rows_more}
use borrow.Author.Rules.{rules}
use Rattle.grid.proofs.write.write_cells.Goals as goal

pub loop-i-preserved : goal.loop-i-preserved
loop-i-preserved c = search (rules, rows_more)
