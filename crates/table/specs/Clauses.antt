-- What inner functions, here and in crates above, may rely on once a table is accepted, what the division of an entry requires and gives, and what a check
-- answers. Assumes nothing.
use Rattle.std.specs.Prelude.{◌≡◌, Bool, List, ℕ, ◌+◌, ◌*◌, ◌<◌, ◌≤◌, ◌%◌, ◌^◌, length, get_or, Option, Result, Ok, Err}
use Rattle.table.specs.Table.{max_rows, max_columns, max_denominator, max_expected}
use Rattle.refusals.specs.declared.Refusal.{Refusal}
use Rattle.refusals.specs.Numbers.{number_of}
use Rattle.refusals.specs.Due.{due, refused_or}
use Rattle.table.specs.declared.whole.Divided.{Divided}
use Rattle.table.specs.Whole.{down, gap}
use Rattle.table.specs.Check.{cells_within, size_tests, cell_tests}
use Rattle.table.specs.declared.Table.{Table}

-- r by c cells, within the bounds
pub record Shape (r c : ℕ) (g : List ℕ) : Type 0 where
  pub some_rows : 1 ≤ r
  pub rows : r ≤ max_rows
  pub some_columns : 1 ≤ c
  pub columns : c ≤ max_columns
  pub cells : length g ≡ r * c

-- an accepted table
pub record IsTable (r c d : ℕ) (g : List ℕ) : Type 0 where
  pub shape : Shape r c g
  pub some_denominator : 1 ≤ d
  pub denominator : d ≤ max_denominator
  pub within : (k : ℕ) → k < length g → get_or g k 0 ≤ max_expected * d

-- `count` places from `start` on, `step` apart, lie among n cells
pub record Reach (start step count n : ℕ) : Type 0 where
  pub step_small : step ≤ 12
  pub count_small : count ≤ 144
  pub room : n ≤ 144
  pub inside : (k : ℕ) → k < count → start + k * step < n

-- a weight from 1 on, and an entry that a number with a sign can hold
pub record Dividable (w e : ℕ) : Type 0 where
  pub some : 0 < w
  pub small : e < 2 ^ 63

-- the entry over w, rounded down, what is left over, and by how much it may be rounded up
pub record Divides (w e : ℕ) (d : Divided) : Type 0 where
  pub whole_is : d.whole ≡ down w e
  pub rest_is : d.rest ≡ e % w
  pub gap_is : d.gap ≡ gap w e

-- what a check answers, of what is due: the sizes where nothing is, else the refusal
abbrev pub answered : ℕ → ℕ → ℕ → Option Refusal → Result Table Refusal
answered r c d x = refused_or Err (Ok (record { rows = r; columns = c; denominator = d })) x

-- the sizes are accepted if none of 1 to 3 applies; n cells, of which it is told whether they are within their bounds, if none of 1 to 4 does
unfoldable pub sizes_of : ℕ → ℕ → ℕ → ℕ → Result Table Refusal
sizes_of r c d n = answered r c d (due (size_tests r c d n))

unfoldable pub check_of_cells : ℕ → ℕ → ℕ → ℕ → Bool → Result Table Refusal
check_of_cells r c d n within = answered r c d (due (cell_tests r c d n within))

-- and so a table
unfoldable pub check_of : ℕ → ℕ → ℕ → List ℕ → Result Table Refusal
check_of r c d g = check_of_cells r c d (length g) (cells_within d g)

-- the number that each answer of the check stands for: 0 for an accepted table, else the refusal's
abbrev pub checked_number : Result Table Refusal → ℕ
checked_number (Ok t) = 0
checked_number (Err x) = number_of x

-- the largest grand total: 144 cells of 1000 · 65,535
abbrev pub max_entry : ℕ
max_entry = 9437040000
