-- What the functions inside require. Assumes nothing.
use Rattle.std.specs.Prelude.{List, ℕ, ◌≤◌, length}
use Rattle.form.specs.declared.Sizes.{Sizes}
use Rattle.form.specs.Clauses.{Bounded}

-- what writing the sizes needs: sizes within the bounds, and room for four numbers
pub record SizesReady (s : Sizes) (numbers : List ℕ) : Type 0 where
  pub bounded : Bounded s.rows s.columns s.arrays
  pub room : 4 ≤ length numbers
