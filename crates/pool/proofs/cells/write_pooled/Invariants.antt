use Prim.Native.Nat.{◌≤◌}
use lib.ListN.{length}
use Rattle.base.specs.Clauses.{Filled}
use Rattle.pool.proofs.Scales.{cell_at}
use Rattle.pool.proofs.cells.write_pooled.Given as goal

abbrev pub invariant-loop-i : goal.invariant-loop-i
invariant-loop-i l = (l.i ≤ length l.first) × Filled (cell_at l.s l.first l.second) 0 l.initial.cells l.cells l.i
