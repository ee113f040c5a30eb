use Prim.Native.Nat.{◌≤◌}
use mathlib.Core.Path.{◌≡◌}
use Rattle.is_rounding.proofs.EntryLines.{Outside}
use Rattle.is_rounding.proofs.EntryBounds.lines_hold.Given as goal

abbrev pub invariant-loop-l : goal.invariant-loop-l
invariant-loop-l l = (l.l ≤ l.l-end) × (l.l-end ≡ l.k.count) × Outside l.counts l.self.low l.self.high l.k l.from l.l l.failed
