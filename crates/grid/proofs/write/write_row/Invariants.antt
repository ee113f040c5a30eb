use Prim.Native.Nat.{◌+◌}
use lib.ListN.{get_or}
use Rattle.base.specs.Clauses.{Filled}
use Rattle.grid.proofs.write.write_row.Given as goal

abbrev pub invariant-loop-j : goal.invariant-loop-j
invariant-loop-j l = Filled (λ k. get_or l.n (l.first + k) 0) l.at l.initial.counts l.counts l.j
