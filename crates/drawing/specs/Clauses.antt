-- What writing an array requires of its callers. Assumes nothing.
use Rattle.std.specs.Prelude.{List, ℕ, ◌*◌, ◌<◌, ◌≤◌, length}
use Rattle.form.specs.declared.Sizes.{Sizes}

-- what writing the array of a draw number of an opened plan asks: a number below D, and room for the array
pub record Drawing (s : Sizes) (d : ℕ) (counts : List ℕ) : Type 0 where
  pub below : d < s.denominator
  pub room : s.rows * s.columns ≤ length counts
