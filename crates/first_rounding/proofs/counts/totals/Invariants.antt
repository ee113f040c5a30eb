use Prim.Native.Nat.{◌≤◌}
use Rattle.first_rounding.specs.Clauses.{taken_off, Overwritten}
use Rattle.first_rounding.proofs.counts.totals.Given as goal

abbrev pub invariant-loop-i : goal.invariant-loop-i
invariant-loop-i l = (l.i ≤ 12) × Overwritten (taken_off l.high l.bits) l.line.start l.line.step l.initial.n l.n l.i
