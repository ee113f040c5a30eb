-- Laws on the order of cells: each cell is the n-th for one n, its rank; and a smaller table's cells have the order that they have in a larger one. Assumes nothing.
use mathlib.Core.Path.{◌≡◌, refl, ap}
use Prim.Native.Nat.{ℕ, ◌+◌, ◌*◌, ◌/◌, ◌%◌, ◌≤◌, ◌<◌}
use native.Mathlib.Decide.{dec_lt}
use native.Mathlib.Nat.{div-add-mod', mod-lt, div-lt_iff_lt-mul}
use native.Mathlib.Omega.{arith}
use lib.Arith.{digits_lt, digits_div, digits_mod}
use Rattle.cell_order.specs.Order.{nth_row, nth_column, rank}

-- the functions compute these
pub row_is : (r c n : ℕ) → n / c ≡ nth_row r c n
unfolding nth_row
row_is r c n = refl

pub column_is : (r c n : ℕ) → n % c ≡ nth_column r c n
unfolding nth_column
column_is r c n = refl

-- the n-th cell
module _ {r c : ℕ} (hr : 0 < r) (hc : 0 < c) (n : ℕ) (h : n < r * c) where
  pub nth_row_lem : nth_row r c n < r
  unfolding nth_row
  nth_row_lem = (div-lt_iff_lt-mul hc).1 h

  pub nth_column_lem : nth_column r c n < c
  unfolding nth_column
  nth_column_lem = mod-lt n hc

  pub nth_rank : rank r c (nth_row r c n) (nth_column r c n) ≡ n
  unfolding nth_row nth_column rank
  nth_rank = div-add-mod' n c

-- the cell at row p and column q
module _ {r c p q : ℕ} (hp : p < r) (hq : q < c) where
  pub rank_below : rank r c p q < r * c
  unfolding rank
  rank_below = digits_lt hp hq

  pub rank_row : nth_row r c (rank r c p q) ≡ p
  unfolding nth_row rank
  rank_row = digits_div p hq

  pub rank_column : nth_column r c (rank r c p q) ≡ q
  unfolding nth_column rank
  rank_column = digits_mod p hq

  -- in a table with as many rows and columns or more
  module _ {r' c' p' q' : ℕ} (rows : r ≤ r') (columns : c ≤ c') (hp' : p' < r) (hq' : q' < c) where
    pub rank_less : rank r' c' p q < rank r' c' p' q' → rank r c p q < rank r c p' q'
    unfolding rank
    rank_less l = go (dec_lt p p') (dec_lt p' p)
      where
        go : Dec (p < p') → Dec (p' < p) → p * c + q < p' * c + q'
        go (yes x) y = omega (arith, digits_lt x hq)
        go (no x) (yes y) = absurd (let z : p' * c' + q' < p * c' = digits_lt y (omega arith) in omega arith)
        go (no x) (no y) =
            let z : p ≡ p' = omega arith in
            omega (arith, ap (λ (i : ℕ). i * c) z, ap (λ (i : ℕ). i * c') z)
