use Rattle.pool.proofs.Scales.{cell_narrow, cells_written}
use borrow.Author.Rules.{rules}
use Rattle.pool.proofs.cells.write_pooled.Goals as goal

pub overflow_cast-cells : goal.overflow_cast-cells
overflow_cast-cells c = search (rules, cell_narrow)

pub returns : goal.returns
returns c = search (rules, cells_written)
