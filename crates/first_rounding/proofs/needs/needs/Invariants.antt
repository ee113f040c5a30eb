use Prim.Native.Nat.{◌≤◌}
use Rattle.first_rounding.proofs.QuotientLoops.{NeedsTo}
use Rattle.first_rounding.proofs.needs.needs.Given as goal

abbrev pub invariant-loop-i : goal.invariant-loop-i
invariant-loop-i l = (l.i ≤ 12) × NeedsTo l.low l.high l.next l.step l.n l.i
