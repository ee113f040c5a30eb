-- What the functions that hold an array to the table's entries require and promise. Entries are given as a list, each by the places that it is the sum of.
-- Assumes nothing.
use Rattle.std.specs.Prelude.{◌≡◌, Bool, ◌&&◌, List, [], ℕ, ◌+◌, ◌*◌, ◌<◌, ◌≤◌, length, get_or, leb}
use Rattle.base.specs.Lists.{every}
use Rattle.base.specs.Clauses.{Filled}
use Rattle.table.specs.Table.{max_columns, max_cells, max_entries, max_denominator, max_expected, places, total}
use Rattle.table.specs.Whole.{down, up}
use Rattle.table.specs.Clauses.{Shape, Reach}
use Rattle.is_rounding.specs.declared.Lines.{Lines}

-- the places that entry l of a kind is the sum over
abbrev pub line_places : Lines → ℕ → List ℕ
line_places k l = places (l * k.stride) k.step k.number

-- the four kinds, of n cells in r rows and c columns
abbrev pub cell_lines : ℕ → Lines
cell_lines n = record { count = n; stride = 1; step = 1; number = 1 }

abbrev pub row_lines : ℕ → ℕ → Lines
row_lines r c = record { count = r; stride = c; step = 1; number = c }

abbrev pub column_lines : ℕ → ℕ → Lines
column_lines r c = record { count = c; stride = 1; step = c; number = r }

abbrev pub grand_lines : ℕ → Lines
grand_lines n = record { count = 1; stride = 1; step = 1; number = n }

-- the entries of a kind are sums of some of n cells, and there is room for them from a place on among all entries
pub record Placed (k : Lines) (from n : ℕ) : Type 0 where
  pub few : k.count ≤ max_cells
  pub stride_small : k.stride ≤ max_columns
  pub room : from + k.count ≤ max_entries
  pub reach : (l : ℕ) → l < k.count → Reach (l * k.stride) k.step k.number n

-- cells of a table over d, within their bound
pub record Cells (d : ℕ) (g : List ℕ) : Type 0 where
  pub some : 0 < d
  pub denominator : d ≤ max_denominator
  pub within : (i : ℕ) → get_or g i 0 ≤ max_expected * d

-- room for the bounds of all entries
pub record Room (low high : List ℕ) : Type 0 where
  pub low_length : length low ≡ max_entries
  pub high_length : length high ≡ max_entries

-- what finding the bounds of all entries of a table needs, and of the entries of a kind
pub record BoundsReady (r c d : ℕ) (g : List ℕ) : Type 0 where
  pub shape : Shape r c g
  pub cells_are : Cells d g

pub record KindReady (k : Lines) (from d : ℕ) (g low high : List ℕ) : Type 0 where
  pub placed : Placed k from (length g)
  pub cells_are : Cells d g
  pub room : Room low high

-- low and high hold f 0, f 1, .. from a place on, each over d rounded down and up, and elsewhere what they held
pub record BoundsFrom (d : ℕ) (f : ℕ → ℕ) (from : ℕ) (low high low' high' : List ℕ) (n : ℕ) : Type 0 where
  pub lows : Filled (λ l. down d (f l)) from low low' n
  pub highs : Filled (λ l. up d (f l)) from high high' n

-- entry e of some entries
abbrev pub entry_of : List (List ℕ) → List ℕ → ℕ → ℕ
entry_of entries g e = total g (get_or entries e [])

-- low and high hold all of them, each over d rounded down and up
pub record Bounds (entries : List (List ℕ)) (d : ℕ) (g low high : List ℕ) : Type 0 where
  pub room : Room low high
  pub lows : (e : ℕ) → e < length entries → get_or low e 0 ≡ down d (entry_of entries g e)
  pub highs : (e : ℕ) → e < length entries → get_or high e 0 ≡ up d (entry_of entries g e)

-- a number from a low one to a high one
abbrev pub between : ℕ → ℕ → ℕ → Bool
between low high x = leb low x && leb x high

-- each entry of a kind of an array n lies between its bounds, which stand from a place on; and each entry that an array is held to does
unfoldable pub lines_between : List ℕ → List ℕ → List ℕ → Lines → ℕ → Bool
lines_between n low high k from = every k.count (λ l. between (get_or low (from + l) 0) (get_or high (from + l) 0) (total n (line_places k l)))

unfoldable pub entries_between : List (List ℕ) → List ℕ → List ℕ → List ℕ → Bool
entries_between entries n low high = every (length entries) (λ e. between (get_or low e 0) (get_or high e 0) (entry_of entries n e))

-- what holding the entries of a kind of an array to their bounds needs, and all entries
pub record KindHeld (k : Lines) (from : ℕ) (n low high : List ℕ) : Type 0 where
  pub placed : Placed k from (length n)
  pub room : Room low high

pub record Counts (r c : ℕ) (n low high : List ℕ) : Type 0 where
  pub shape : Shape r c n
  pub room : Room low high
