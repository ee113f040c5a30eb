-- What the fixing of places needs and leaves. Assumes nothing.
use Rattle.std.specs.Prelude.{◌≡◌, ℕ, ◌<◌}
use Rattle.sets.specs.Clauses.{has}
use Rattle.line_sums.specs.declared.places.AllPlaces.{AllPlaces}
use Rattle.line_sums.specs.Clauses.{Board, board_of, Fixed, First}

-- the board of all places
abbrev pub board : AllPlaces → Board
board m = board_of m.free.up m.free.down m.one

-- what the fixing of a place that is free and 1 needs
pub record LowerReady (m : AllPlaces) (row column : ℕ) : Type 0 where
  pub row_inside : row < 13
  pub column_inside : column < 13
  pub is_one : has m.free.down column row ≡ 1

-- what the fixing of a place leaves, and of the first k cells
abbrev pub PlaceFixed : AllPlaces → AllPlaces → ℕ → ℕ → Type 0
PlaceFixed m m' row column = Fixed (board m) (board m') row column

abbrev pub CellsFixed : AllPlaces → AllPlaces → ℕ → Type 0
CellsFixed m m' k = First (board m) (board m') k
