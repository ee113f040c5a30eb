use Prim.Native.Nat.{◌≤◌}
use mathlib.Core.Path.{◌≡◌}
use Rattle.table.specs.Table.{total}
use Rattle.is_rounding.specs.Clauses.{line_places, BoundsFrom}
use Rattle.is_rounding.proofs.EntryBounds.add_lines.Given as goal

abbrev pub invariant-loop-l : goal.invariant-loop-l
invariant-loop-l l = (l.l ≤ l.l-end) × (l.l-end ≡ l.k.count) × BoundsFrom l.denominator (λ i. total l.cells (line_places l.k i)) l.from l.initial.self.low l.initial.self.high l.self.low l.self.high l.l
