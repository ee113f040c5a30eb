-- What the functions that find the n-th cell require. Assumes nothing.
use Rattle.std.specs.Prelude.{ℕ, ◌<◌}

-- a table that has a cell
pub record Some (r c : ℕ) : Type 0 where
  pub rows : 0 < r
  pub columns : 0 < c
