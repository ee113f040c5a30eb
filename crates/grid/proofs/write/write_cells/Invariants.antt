use Prim.Native.Nat.{◌*◌}
use Rattle.base.specs.Clauses.{Filled}
use Rattle.grid.specs.Clauses.{grid_cell}
use Rattle.grid.proofs.write.write_cells.Given as goal

abbrev pub invariant-loop-i : goal.invariant-loop-i
invariant-loop-i l = Filled (grid_cell l.n l.columns) l.at l.initial.counts l.counts (l.i * l.columns)
