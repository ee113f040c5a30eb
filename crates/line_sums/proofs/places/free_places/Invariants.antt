use mathlib.Core.Path.{◌≡◌}
use Prim.Native.Nat.{ℕ, ◌≤◌, ◌<◌}
use lib.ListN.{length}
use Rattle.line_sums.specs.Clauses.{at}
use Rattle.sets.specs.Clauses.{has}
use Rattle.line_sums.proofs.places.free_places.Given as goal

abbrev pub invariant-loop-p : goal.invariant-loop-p
invariant-loop-p l = (l.p ≤ 13) × ((length l.up ≡ 13) × ((i : ℕ) → i < l.p → (q : ℕ) → q < 13 → has l.up i q ≡ at l.cap i q))
