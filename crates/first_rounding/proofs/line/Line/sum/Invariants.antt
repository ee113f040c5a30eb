use Prim.Native.Nat.{◌≤◌}
use Rattle.first_rounding.proofs.QuotientLoops.{LineTo}
use Rattle.first_rounding.proofs.line.Line.sum.Given as goal

abbrev pub invariant-loop-k : goal.invariant-loop-k
invariant-loop-k l = (l.k ≤ 12) × LineTo l.l l.self.start l.self.step l.k l.sum
