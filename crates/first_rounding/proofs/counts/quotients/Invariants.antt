use Prim.Native.Nat.{◌≤◌}
use Rattle.first_rounding.proofs.QuotientLoops.{PartsTo}
use Rattle.first_rounding.proofs.counts.quotients.Given as goal

abbrev pub invariant-loop-k : goal.invariant-loop-k
invariant-loop-k l = (l.k ≤ 169) × PartsTo l.w l.e l.low l.high l.cap l.k
