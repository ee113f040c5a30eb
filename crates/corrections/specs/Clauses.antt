-- What the functions inside require and promise. Assumes nothing.
use Rattle.std.specs.Prelude.{◌≡◌, List, map, ℕ, ◌*◌, ◌<◌, ◌≤◌, ℤ, pos, ◌+ℤ◌, length, get_or, None}
use Rattle.std.specs.Int.{w16}
use Rattle.std.proofs.Common.{SFits}
use Rattle.base.specs.Lists.{tabulate}
use Rattle.table.specs.Table.{max_denominator}
use Rattle.division.specs.Division.{down, rest}
use Rattle.correction_check.specs.Check.{table_refusal}

-- what is left over of each cell by D: a table without a cell below zero
abbrev pub rests : ℕ → List ℤ → List ℕ
rests d g = map (rest d) g

-- what the loop over what is left over needs
pub record RestsReady (d : ℕ) (g : List ℤ) (out : List ℕ) : Type 0 where
  pub some : 0 < d
  pub denominator : d ≤ max_denominator
  pub room : length g ≤ length out

-- the count of a cell: the cell over D rounded down, and the count n of what is left over
abbrev pub count_of : ℕ → ℤ → ℕ → ℤ
count_of d z n = down d z +ℤ pos n

-- those of all cells
abbrev pub counts_of : ℕ → List ℤ → List ℕ → List ℤ
counts_of d g n = tabulate (length g) (λ k. count_of d (get_or g k (pos 0)) (get_or n k 0))

-- a count that fits 16 bits, and counts that do, with room
pub record CountReady (d : ℕ) (z : ℤ) (n : ℕ) : Type 0 where
  pub some : 0 < d
  pub fits : SFits w16 (count_of d z n)

pub record CountsReady (d : ℕ) (g : List ℤ) (n : List ℕ) (out : List ℤ) : Type 0 where
  pub some : 0 < d
  pub few : length g ≤ 144
  pub room : length g ≤ length out
  pub fit : (k : ℕ) → k < length g → SFits w16 (count_of d (get_or g k (pos 0)) (get_or n k 0))

-- an accepted table of corrections, and room for its array
pub record SheetReady (r c d : ℕ) (g counts : List ℤ) : Type 0 where
  pub accepted : table_refusal r c d g ≡ None
  pub room : r * c ≤ length counts
