-- Tables and their entries (specification, "From table to campaign"). Assumes nothing.
use Rattle.std.specs.Prelude.{List, [], ◌∷◌, ◌++◌, map, ℕ, ◌+◌, ◌*◌, get_or}
use Rattle.base.specs.Lists.{tabulate, sum}

-- the bounds: rows, columns, arrays, the denominator, and a cell over the denominator
abbrev pub max_rows : ℕ
max_rows = 12

abbrev pub max_columns : ℕ
max_columns = 12

abbrev pub max_arrays : ℕ
max_arrays = 170

abbrev pub max_denominator : ℕ
max_denominator = 65535

abbrev pub max_expected : ℕ
max_expected = 1000

-- the most cells: 12 rows of 12
abbrev pub max_cells : ℕ
max_cells = 144

-- the most entries with the totals: 13 rows of 13
abbrev pub max_entries : ℕ
max_entries = 169

-- The cells of a table are listed row by row; the place of a cell is its index in that list.
-- The places from `start` on, `step` apart: every entry is a sum over such places.
abbrev pub places : ℕ → ℕ → ℕ → List ℕ
places start step count = tabulate count (λ k. start + k * step)

abbrev pub cell_places : ℕ → List ℕ
cell_places k = places k 1 1

abbrev pub row_places : ℕ → ℕ → List ℕ
row_places c i = places (i * c) 1 c

abbrev pub column_places : ℕ → ℕ → ℕ → List ℕ
column_places r c j = places j c r

abbrev pub all_places : ℕ → ℕ → List ℕ
all_places r c = places 0 1 (r * c)

-- the entries in their order, cells, row totals, column totals, grand total, each by the places that it is the sum of
unfoldable pub entry_places : ℕ → ℕ → List (List ℕ)
entry_places r c = tabulate (r * c) cell_places ++ (tabulate r (row_places c) ++ (tabulate c (column_places r c) ++ (all_places r c ∷ [])))

-- the sum of the cells at some places
unfoldable pub total : List ℕ → List ℕ → ℕ
total g s = sum (map (λ k. get_or g k 0) s)

-- the entries themselves
unfoldable pub entries : ℕ → ℕ → List ℕ → List ℕ
entries r c g = map (total g) (entry_places r c)
