-- The levels of a search, and places that move between up and down. up has for each row the columns that it can raise, and down for each column the rows
-- that it can lower. Assumes nothing.
use Rattle.std.specs.Prelude.{◌≡◌, ℕ, ◌+◌, ◌<◌, ◌≤◌, min, List, length, get_or}
use Rattle.sets.specs.Clauses.{ind, on, has, Via}
use Rattle.base.specs.Lists.{sum_to}

-- the rows of the levels 0 to k and the columns of those before k: a column of a level is reached from a row of that level, and a row of the next from such a column
pub record Levels (up down rows cols : List ℕ) (start k : ℕ) : Type 0 where
  pub first : (p : ℕ) → has rows 0 p ≡ ind p start
  pub row_small : (i : ℕ) → i ≤ k → get_or rows i 0 < 8192
  pub col_small : (i : ℕ) → i < k → get_or cols i 0 < 8192
  pub col_from : (i q : ℕ) → i < k → has cols i q ≡ 1 → Via up (get_or rows i 0) q
  pub row_from : (i p : ℕ) → i < k → has rows (i + 1) p ≡ 1 → Via down (get_or cols i 0) p
  pub row_apart : (i j p : ℕ) → i < j → j ≤ k → has rows i p + has rows j p ≤ 1
  pub col_apart : (i j q : ℕ) → i < j → j < k → has cols i q + has cols j q ≤ 1

-- column end can be raised from a row of the last level, and is on no level before
pub record Trail (up down rows cols : List ℕ) (start end last : ℕ) : Type 0 where
  pub levels : Levels up down rows cols start last
  pub level : last < 13
  pub below : end < 13
  pub via : Via up (get_or rows last 0) end
  pub new : (i : ℕ) → i < last → has cols i end ≡ 0

-- no column of ends can be reached from row start: nothing leads from what is reached to the rows and columns that are left
pub record Stuck (up down : List ℕ) (ends start : ℕ) : Type 0 where
  pub rows_left : ℕ
  pub cols_left : ℕ
  pub begin : on rows_left start ≡ 0
  pub ups : (p q : ℕ) → p < 13 → q < 13 → has up p q + on cols_left q ≤ 1 + on rows_left p
  pub downs : (p q : ℕ) → p < 13 → q < 13 → has down q p + on rows_left p ≤ 1 + on cols_left q
  pub full : (q : ℕ) → q < 13 → on ends q ≤ on cols_left q

-- 1 where x is p and y is q, else 0
unfoldable pub same_place : ℕ → ℕ → ℕ → ℕ → ℕ
same_place x p y q = min (ind x p) (ind y q)

-- the place at p and q is in a and not in b
pub record FlipReady (a b : List ℕ) (p q : ℕ) : Type 0 where
  pub a_len : length a ≡ 13
  pub b_len : length b ≡ 13
  pub p_inside : p < 13
  pub q_inside : q < 13
  pub in_a : has a p q ≡ 1
  pub not_in_b : has b q p ≡ 0

-- a' and b' are a and b with the place at p and q moved from a to b
pub record Flipped (a b a' b' : List ℕ) (p q : ℕ) : Type 0 where
  pub a_len : length a' ≡ 13
  pub b_len : length b' ≡ 13
  pub a_is : (x y : ℕ) → has a' x y + same_place x p y q ≡ has a x y
  pub b_is : (x y : ℕ) → has b' y x ≡ has b y x + same_place x p y q

-- how many places of row p, and of column q, are free and 1
unfoldable pub row_ones : List ℕ → ℕ → ℕ
row_ones down p = sum_to 13 (λ q. has down q p)

unfoldable pub col_ones : List ℕ → ℕ → ℕ
col_ones down q = sum_to 13 (λ p. has down q p)

-- a place is in one of the two at most
pub record NotBoth (up down : List ℕ) : Type 0 where
  pub up_len : length up ≡ 13
  pub down_len : length down ≡ 13
  pub one : (p q : ℕ) → p < 13 → q < 13 → has up p q + has down q p ≤ 1

-- one more in a row and in a column, and the same in every other line; what is free stays so
pub record OneMore (up down up' down' : List ℕ) (row column : ℕ) : Type 0 where
  pub up_len : length up' ≡ 13
  pub down_len : length down' ≡ 13
  pub free : (p q : ℕ) → has up' p q + has down' q p ≡ has up p q + has down q p
  pub in_row : (p : ℕ) → row_ones down' p ≡ row_ones down p + ind p row
  pub in_col : (q : ℕ) → col_ones down' q ≡ col_ones down q + ind q column
