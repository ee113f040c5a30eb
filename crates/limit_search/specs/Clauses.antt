-- What the search of a grid for a number requires and promises. Assumes nothing.
use Rattle.std.specs.Prelude.{Bool, List, ℕ, ◌+◌, ◌*◌, ◌/◌, ◌%◌, ◌≤◌, get_or, eqb}
use Rattle.base.specs.Lists.{tabulate}
use Rattle.table.specs.Table.{max_rows, max_columns}
use Rattle.grid.specs.Clauses.{grid_place}

-- a block of the grid of 13 by 13: its first row and column, and how many it has
pub record Block : Type 0 where
  pub top : ℕ
  pub left : ℕ
  pub rows : ℕ
  pub columns : ℕ

abbrev pub block : ℕ → ℕ → ℕ → ℕ → Block
block top left rows columns = record { top = top; left = left; rows = rows; columns = columns }

-- it lies in the grid
pub record InGrid (b : Block) : Type 0 where
  pub rows : b.top + b.rows ≤ 13
  pub columns : b.left + b.columns ≤ 13

-- its places in the grid, row by row
abbrev pub block_place : Block → ℕ → ℕ
block_place b k = grid_place (b.top + k / b.columns) (b.left + k % b.columns)

abbrev pub block_places : Block → List ℕ
block_places b = tabulate (b.rows * b.columns) (block_place b)

-- the number at a place is x
abbrev pub holds : List ℕ → ℕ → ℕ → Bool
holds l x k = eqb (get_or l k 0) x

-- sizes within the bounds
pub record Sizes (r c : ℕ) : Type 0 where
  pub rows : r ≤ max_rows
  pub columns : c ≤ max_columns
