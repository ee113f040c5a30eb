-- What the functions of this crate promise. Assumes nothing.
use Rattle.std.specs.Prelude.{◌≡◌, ℕ, ℤ, pos, negsuc}
use Rattle.division.specs.declared.Divided.{Divided}
use Rattle.division.specs.Division.{down, rest}

-- the entry over w, rounded down, and what is left over
pub record Divides (w : ℕ) (e : ℤ) (d : Divided) : Type 0 where
  pub whole_is : d.whole ≡ down w e
  pub rest_is : d.rest ≡ rest w e

-- -1 - z
abbrev pub flip_of : ℤ → ℤ
flip_of (pos m) = negsuc m
flip_of (negsuc m) = pos m
