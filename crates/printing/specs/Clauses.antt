-- What the functions of this crate require of their callers, and of each other. Assumes nothing.
use Rattle.std.specs.Prelude.{List, [], ◌∷◌, ℕ, zero, suc, ◌+◌, ◌≤◌, length}

-- some bytes fit into a buffer from a place on
pub record Room (out : List ℕ) (at : ℕ) (s : List ℕ) : Type 0 where
  pub fits : at + length s ≤ length out

-- what stands before the number at a place of a line
abbrev pub gap_before : ℕ → List ℕ
gap_before zero = []
gap_before (suc i) = 32 ∷ []
