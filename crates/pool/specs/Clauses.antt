-- What the functions of this crate require of and promise to each other. Assumes nothing.
use Rattle.std.specs.Prelude.{◌≡◌, true, List, ℕ, ◌*◌, ◌/◌, ◌≤◌, length, Result, Ok, Err}
use Rattle.refusals.specs.Due.{due, refused_or}
use Rattle.table.specs.Table.{max_denominator}
use Rattle.table.specs.Check.{cells_within}
use Rattle.multiples.specs.Multiple.{least_multiple}
use Rattle.pool.specs.declared.Scale.{Scale}
use Rattle.pool.specs.Pool.{scaled_cells, parts_tests}
use Rattle.pool.specs.declared.check.Pair.{Pair}
use Rattle.refusals.specs.declared.Refusal.{Refusal}

-- what the check of two parts answers: their number of cells and their denominators, or what is due
unfoldable pub parts_answer : ℕ → ℕ → ℕ → List ℕ → ℕ → List ℕ → Result Pair Refusal
parts_answer r c d g e h = refused_or Err (Ok (record { cells = r * c; first = d; second = e })) (due (parts_tests r c d g e h))

-- two denominators within the bounds
pub record Denominators (d e : ℕ) : Type 0 where
  pub some_first : 1 ≤ d
  pub first : d ≤ max_denominator
  pub some_second : 1 ≤ e
  pub second : e ≤ max_denominator

-- the scale of n cells over d and over e
abbrev pub scale_of : ℕ → ℕ → ℕ → Scale
scale_of n d e = let m = least_multiple d e in record { cells = n; denominator = m; first = m / d; second = m / e }

-- factors that are at most 65,535: a pooled cell of two numbers of 32 bits is then below 2^49
pub record Factors (s : Scale) : Type 0 where
  pub first_small : s.first ≤ max_denominator
  pub second_small : s.second ≤ max_denominator

-- such factors, a denominator of at most 65,535 · 65,535, which is below 2^32, and equally many cells of both tables
pub record Scaled (s : Scale) (g h : List ℕ) : Type 0 where
  pub factors : Factors s
  pub denominator_small : s.denominator ≤ max_denominator * max_denominator
  pub alike : length g ≡ length h

-- pooled cells that are within the bounds, and room for them
pub record Writable (s : Scale) (g h cells : List ℕ) : Type 0 where
  pub scaled : Scaled s g h
  pub denominator_small : s.denominator ≤ max_denominator
  pub within : cells_within s.denominator (scaled_cells s.first s.second g h) ≡ true
  pub room : length g ≤ length cells
