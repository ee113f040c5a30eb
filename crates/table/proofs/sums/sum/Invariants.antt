use lib.ListN.{get_or}
use Prim.Native.Nat.{◌+◌, ◌*◌}
use Rattle.base.proofs.SumLoops.{Summed}
use Rattle.table.proofs.sums.sum.Given as goal

abbrev pub invariant-loop-k : goal.invariant-loop-k
invariant-loop-k l = Summed (λ i. get_or l.cells (l.start + i * l.step) 0) 4294967296 l.k l.s
