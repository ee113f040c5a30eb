-- Which array a draw number belongs to (specification, "The plan"). Assumes nothing.
use Rattle.std.specs.Prelude.{◌≡◌, List, ℕ}
use Rattle.weighted_arrays.specs.Plan.{Weighted, array_at, array_for, Belongs}

-- draw number d belongs to the array whose stretch of weights it lies in: there is one, only one, and its counts are those that a draw of d gives
pub record Belonging (l : List Weighted) (d : ℕ) : Type 0 where
  pub array : ℕ
  pub belongs : Belongs l d array
  pub only : (k : ℕ) → Belongs l d k → k ≡ array
  pub counts : array_for l d ≡ (array_at l array).counts
