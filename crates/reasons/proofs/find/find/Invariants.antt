use mathlib.Core.Path.{◌≡◌}
use Rattle.reasons.proofs.Finding.{Passed}
use Rattle.reasons.proofs.find.find.Given as goal

abbrev pub invariant-loop-k : goal.invariant-loop-k
invariant-loop-k l =
    (l.left.rows ≡ l.t.sizes.rows) × (l.left.columns ≡ l.t.sizes.columns)
    × Passed l.t.sizes.rows l.t.sizes.columns l.t.sizes.denominator l.t.cells.now l.array l.left.weight l.k l.left.entries
