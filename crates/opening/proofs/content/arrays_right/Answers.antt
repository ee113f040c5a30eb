use Rattle.opening.proofs.ContentTests.{table_shape, table_arrays, table_few, arrays_unheld, arrays_met}
use borrow.Author.Rules.{rules}
use Rattle.opening.proofs.content.arrays_right.Goals as goal

pub fill-requires : goal.fill-requires
fill-requires c = record { shape = table_shape c.args.plan.now.laid_out c.requires; cells_are = rw c.from.ensures c.requires.cells_are }

pub arrays_held-requires : goal.arrays_held-requires
arrays_held-requires c = table_arrays c.args.plan.now.laid_out c.requires (rw c.from.ensures at c.fill.ensures)

pub cells_met-requires : goal.cells_met-requires
cells_met-requires c = search (rules, table_few)

pub returns-then-arrays_held : goal.returns-then-arrays_held
returns-then-arrays_held c = arrays_met c.args.plan.now.laid_out c.requires c.arrays_held.ensures c.if-arrays_held.true c.cells_met.ensures

pub returns-else-arrays_held : goal.returns-else-arrays_held
returns-else-arrays_held c = arrays_unheld c.args.plan.now.laid_out c.requires c.arrays_held.ensures c.if-arrays_held.false
