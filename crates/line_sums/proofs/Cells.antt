-- The 12 by 12 cells in the order in which they are compared. Assumes nothing.
use mathlib.Core.Path.{◌≡◌}
use Prim.Native.Nat.{ℕ, ◌<◌}
use native.Mathlib.Omega.{arith}
use Rattle.cell_order.specs.Order.{nth_row, nth_column, rank}
use Rattle.cell_order.proofs.Ranks.{nth_row_lem, nth_column_lem, nth_rank}

module _ (n : ℕ) (h : n < 144) where
  pub row_below : nth_row 12 12 n < 12
  row_below = nth_row_lem {r = 12} {c = 12} (omega arith) (omega arith) n h

  pub column_below : nth_column 12 12 n < 12
  column_below = nth_column_lem {r = 12} {c = 12} (omega arith) (omega arith) n h

  pub rank_is : rank 12 12 (nth_row 12 12 n) (nth_column 12 12 n) ≡ n
  rank_is = nth_rank {r = 12} {c = 12} (omega arith) (omega arith) n h

  -- its place lies in the grid
  pub row_inside : nth_row 12 12 n < 13
  row_inside = omega (arith, row_below)

  pub column_inside : nth_column 12 12 n < 13
  column_inside = omega (arith, column_below)
