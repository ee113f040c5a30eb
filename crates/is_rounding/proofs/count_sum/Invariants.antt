use lib.ListN.{get_or}
use Prim.Native.Nat.{◌+◌, ◌*◌}
use Rattle.base.proofs.SumLoops.{Summed}
use Rattle.is_rounding.proofs.count_sum.Given as goal

abbrev pub invariant-loop-k : goal.invariant-loop-k
invariant-loop-k l = Summed (λ i. get_or l.counts (l.start + i * l.step) 0) 65536 l.k l.s
