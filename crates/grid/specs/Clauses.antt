-- The grid in which rounding and planning hold a table's entries, and what writing its cells requires. Assumes nothing.
use Rattle.std.specs.Prelude.{cond, List, [], ◌∷◌, ◌++◌, ℕ, ◌+◌, ◌*◌, ◌/◌, ◌%◌, ◌<◌, ◌≤◌, get_or, ltb}
use Rattle.base.specs.Lists.{tabulate}
use Rattle.table.specs.Table.{cell_places, row_places, column_places, all_places, total}

-- The layout in which rounding and planning hold a table's entries: a grid of 13 by 13 in row order, cells in rows and columns below 12,
-- row totals in column 12, column totals in row 12, the grand total in both, and 0 where the table has no entry.
unfoldable pub grid_places : ℕ → ℕ → ℕ → ℕ → List ℕ
grid_places r c p q =
    cond (ltb p 12)
    (cond (ltb p r) (cond (ltb q 12) (cond (ltb q c) (cell_places (p * c + q)) []) (row_places c p)) [])
    (cond (ltb q 12) (cond (ltb q c) (column_places r c q) []) (all_places r c))

unfoldable pub grid_at : ℕ → ℕ → List ℕ → ℕ → ℕ → ℕ
grid_at r c g p q = total g (grid_places r c p q)

-- the place of row p and column q in the grid
abbrev pub grid_place : ℕ → ℕ → ℕ
grid_place p q = p * 13 + q

unfoldable pub grid_of : ℕ → ℕ → List ℕ → List ℕ
grid_of r c g = tabulate 169 (λ k. grid_at r c g (k / 13) (k % 13))

-- where the entries stand in the grid, in their order
unfoldable pub grid_order : ℕ → ℕ → List ℕ
grid_order r c =
    tabulate (r * c) (λ k. grid_place (k / c) (k % c))
    ++ (tabulate r (λ i. grid_place i 12) ++ (tabulate c (λ j. grid_place 12 j) ++ (grid_place 12 12 ∷ [])))

-- cell k, in row order, of a table of c columns that is held as a grid
abbrev pub grid_cell : List ℕ → ℕ → ℕ → ℕ
grid_cell n c k = get_or n (grid_place (k / c) (k % c)) 0

-- a row, and all cells, that can be written as counts of 16 bits into a buffer with room
pub record RowReady (n : List ℕ) (first columns room at : ℕ) : Type 0 where
  pub inside : first + columns ≤ 169
  pub fits : at + columns ≤ room
  pub small : (j : ℕ) → j < columns → get_or n (first + j) 0 ≤ 65535

pub record Ready (n : List ℕ) (rows columns room at : ℕ) : Type 0 where
  pub some_columns : 1 ≤ columns
  pub columns_small : columns ≤ 12
  pub rows_small : rows ≤ 12
  pub fits : at + rows * columns ≤ room
  pub small : (i j : ℕ) → i < rows → j < columns → get_or n (i * 13 + j) 0 ≤ 65535
