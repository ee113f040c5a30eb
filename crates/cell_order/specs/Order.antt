-- The order in which the cells of arrays are compared (specification, "The rounding": "cell by cell in row order"). What depends on this order, here and above,
-- goes through the three definitions of this file, the two functions of this crate and the laws on them. Assumes nothing.
use Rattle.std.specs.Prelude.{ℕ, ◌+◌, ◌*◌, ◌/◌, ◌%◌}

-- the row and the column of the n-th cell, counted from 0, of r rows and c columns
unfoldable pub nth_row : ℕ → ℕ → ℕ → ℕ
nth_row r c n = n / c

unfoldable pub nth_column : ℕ → ℕ → ℕ → ℕ
nth_column r c n = n % c

-- the other way round: how many cells come before the one at row p and column q
unfoldable pub rank : ℕ → ℕ → ℕ → ℕ → ℕ
rank r c p q = p * c + q
