-- Matrices of 13 by 13 with given line sums (a line is a row or a column), and the first of those of 0 and 1; then places that are free and places that are
-- fixed, as the functions inside hold them. Assumes nothing.
use Rattle.std.specs.Prelude.{◌≡◌, ℕ, ◌+◌, ◌*◌, ◌<◌, ◌≤◌, ◌/◌, ◌%◌, min, List, length, get_or, replicate}
use Rattle.base.specs.Lists.{sum_to}
use Rattle.cell_order.specs.Order.{nth_row, nth_column}
use Rattle.sets.specs.Clauses.{ind, on, has}
use Rattle.paths.specs.declared.FreePlaces.{FreePlaces}

-- the number at row p and column q of a 13 by 13 grid held in row order
abbrev pub at : List ℕ → ℕ → ℕ → ℕ
at m p q = get_or m (p * 13 + q) 0

-- 169 numbers, each 0 or 1
pub record Caps (cap : List ℕ) : Type 0 where
  pub len : length cap ≡ 169
  pub bit : (p q : ℕ) → p < 13 → q < 13 → at cap p q ≤ 1

-- a matrix of natural numbers that is at most w times the cap and has w times the given line sums; over w = 1 it is a matrix of 0 and 1
pub record Matrix (w : ℕ) (cap rows cols : List ℕ) (x : ℕ → ℕ → ℕ) : Type 0 where
  pub le : (p q : ℕ) → p < 13 → q < 13 → x p q ≤ w * at cap p q
  pub row : (p : ℕ) → p < 13 → sum_to 13 (λ q. x p q) ≡ w * get_or rows p 0
  pub col : (q : ℕ) → q < 13 → sum_to 13 (λ p. x p q) ≡ w * get_or cols q 0

-- there is such a matrix over some w from 1 on: a fractional solution
pub record Solvable (cap rows cols : List ℕ) : Type 0 where
  pub w : ℕ
  pub pos : 0 < w
  pub x : ℕ → ℕ → ℕ
  pub matrix : Matrix w cap rows cols x

-- what is asked: a cap of 0 and 1, and line sums that such a matrix has
pub record Asked (cap rows cols : List ℕ) : Type 0 where
  pub caps : Caps cap
  pub solvable : Solvable cap rows cols

-- the n-th of the 12 by 12 cells of a matrix, in the order in which cells are compared
abbrev pub nth_cell : (ℕ → ℕ → ℕ) → ℕ → ℕ
nth_cell x n = x (nth_row 12 12 n) (nth_column 12 12 n)

-- b is a matrix of 0 and 1 with the line sums, and the first of all of them, compared cell by cell over the 12 by 12 cells: where another has the same
-- cells up to one, it has no smaller number there
pub record FirstMatrix (cap rows cols b : List ℕ) : Type 0 where
  pub len : length b ≡ 169
  pub matrix : Matrix 1 cap rows cols (at b)
  pub first : (x : ℕ → ℕ → ℕ) → Matrix 1 cap rows cols x → (n : ℕ) → n < 144
      → ((m : ℕ) → m < n → nth_cell x m ≡ nth_cell (at b) m) → nth_cell (at b) n ≤ nth_cell x n

-- for each place its bit, and 1 where it is free
pub record Board : Type 0 where
  pub bit : ℕ → ℕ → ℕ
  pub free : ℕ → ℕ → ℕ

-- up: for each row the columns whose place is free and 0; down: for each column the rows whose place is free and 1; one: for each row the columns fixed at 1
abbrev pub board_of : List ℕ → List ℕ → List ℕ → Board
board_of up down one = record { bit = λ p q. has down q p + has one p q; free = λ p q. has up p q + has down q p }

-- a board with no place fixed at 1
abbrev pub start : List ℕ → List ℕ → Board
start up down = board_of up down (replicate 13 0)

-- a place is in one of the three at most
pub record Places (up down one : List ℕ) : Type 0 where
  pub up_len : length up ≡ 13
  pub down_len : length down ≡ 13
  pub one_len : length one ≡ 13
  pub single : (p q : ℕ) → p < 13 → q < 13 → has up p q + has down q p + has one p q ≤ 1

-- the sum of a row, and of a column
unfoldable pub row_sum : Board → ℕ → ℕ
row_sum g p = sum_to 13 (λ q. g.bit p q)

unfoldable pub col_sum : Board → ℕ → ℕ
col_sum g q = sum_to 13 (λ p. g.bit p q)

-- x is at most w, is w times g's bit where g is fixed, and has line sums w * rows and w * cols
pub record Flow (w : ℕ) (g : Board) (rows cols : ℕ → ℕ) (x : ℕ → ℕ → ℕ) : Type 0 where
  pub le : (p q : ℕ) → p < 13 → q < 13 → x p q ≤ w
  pub fixed : (p q : ℕ) → p < 13 → q < 13 → g.free p q ≡ 0 → x p q ≡ w * g.bit p q
  pub row : (p : ℕ) → p < 13 → sum_to 13 (λ q. x p q) ≡ w * rows p
  pub col : (q : ℕ) → q < 13 → sum_to 13 (λ p. x p q) ≡ w * cols q

-- there is such an x over some w from 1 on
pub record Feasible (g : Board) (rows cols : ℕ → ℕ) : Type 0 where
  pub w : ℕ
  pub pos : 0 < w
  pub x : ℕ → ℕ → ℕ
  pub flow : Flow w g rows cols x

-- with the columns' lack made good, the rows can have at least what they have, and row i at least n more
pub record Room (g : Board) (lack : List ℕ) (i n : ℕ) : Type 0 where
  pub rows : ℕ → ℕ
  pub enough : (p : ℕ) → p < 13 → row_sum g p + n * ind p i ≤ rows p
  pub feasible : Feasible g rows (λ q. col_sum g q + get_or lack q 0)

-- g' is g with as many more in each row as added says, and in each column as its lack fell
pub record RowsFilled (g g' : Board) (lack lack' : List ℕ) (added : ℕ → ℕ) : Type 0 where
  pub lack_len : length lack' ≡ 13
  pub free : (p q : ℕ) → g'.free p q ≡ g.free p q
  pub kept : (p q : ℕ) → g.free p q ≡ 0 → g'.bit p q ≡ g.bit p q
  pub rows : (p : ℕ) → p < 13 → row_sum g' p ≡ row_sum g p + added p
  pub cols : (q : ℕ) → q < 13 → col_sum g' q + get_or lack' q 0 ≡ col_sum g q + get_or lack q 0

-- the columns that lack something
pub record Lacking (lack : List ℕ) (columns : ℕ) : Type 0 where
  pub is : (q : ℕ) → q < 13 → on columns q ≡ min (get_or lack q 0) 1

-- column j lacks something
pub record LacksOne (lack : List ℕ) (j : ℕ) : Type 0 where
  pub inside : j < 13
  pub len : length lack ≡ 13
  pub some : 0 < get_or lack j 0

-- what the filling of a row by n more needs, and of all rows by what more says
pub record RowReady (m : FreePlaces) (lack : List ℕ) (row n : ℕ) : Type 0 where
  pub lack_len : length lack ≡ 13
  pub inside : row < 13
  pub room : Room (start m.up m.down) lack row n

pub record FillReady (m : FreePlaces) (lack more : List ℕ) : Type 0 where
  pub lack_len : length lack ≡ 13
  pub feasible : Feasible (start m.up m.down) (λ p. row_sum (start m.up m.down) p + get_or more p 0) (λ q. col_sum (start m.up m.down) q + get_or lack q 0)

-- and what it leaves
abbrev pub FilledBy : FreePlaces → List ℕ → FreePlaces → List ℕ → (ℕ → ℕ) → Type 0
FilledBy m lack m' lack' added = RowsFilled (start m.up m.down) (start m'.up m'.down) lack lack' added

-- x has g's line sums, and g's bits where they are fixed
abbrev pub Allowed : Board → (ℕ → ℕ → ℕ) → Type 0
Allowed g x = Flow 1 g (row_sum g) (col_sum g) x

-- g' is g with the place at row i and column j fixed, as low as can be
pub record Fixed (g g' : Board) (i j : ℕ) : Type 0 where
  pub rows : (p : ℕ) → row_sum g' p ≡ row_sum g p
  pub cols : (q : ℕ) → col_sum g' q ≡ col_sum g q
  pub here : g'.free i j ≡ 0
  pub others : (p q : ℕ) → p < 13 → q < 13 → ((p ≡ i) × (q ≡ j) → ⊥) → g'.free p q ≡ g.free p q
  pub fewer : (p q : ℕ) → g'.free p q ≤ g.free p q
  pub kept : (p q : ℕ) → p < 13 → q < 13 → g.free p q ≡ 0 → g'.bit p q ≡ g.bit p q
  pub least : (x : ℕ → ℕ → ℕ) → Allowed g x → g'.bit i j ≤ x i j

-- the first k cells of g, in the order in which cells are compared, come first among those of the matrices that have g₀'s sums and fixed places
pub record First (g₀ g : Board) (k : ℕ) : Type 0 where
  pub rows : (p : ℕ) → row_sum g p ≡ row_sum g₀ p
  pub cols : (q : ℕ) → col_sum g q ≡ col_sum g₀ q
  pub fixed : (n : ℕ) → n < k → nth_cell g.free n ≡ 0
  pub others : (p q : ℕ) → p < 13 → q < 13 → ((n : ℕ) → n < k → (p ≡ nth_row 12 12 n) × (q ≡ nth_column 12 12 n) → ⊥) → g.free p q ≡ g₀.free p q
  pub fewer : (p q : ℕ) → g.free p q ≤ g₀.free p q
  pub kept : (p q : ℕ) → p < 13 → q < 13 → g₀.free p q ≡ 0 → g.bit p q ≡ g₀.bit p q
  pub least : (x : ℕ → ℕ → ℕ) → Allowed g₀ x → (n : ℕ) → n < k
      → ((m : ℕ) → m < n → nth_cell x m ≡ nth_cell g.bit m) → nth_cell g.bit n ≤ nth_cell x n

-- up has for each row the columns where the cap is 1
pub record FreeOf (cap up : List ℕ) : Type 0 where
  pub len : length up ≡ 13
  pub is : (p q : ℕ) → p < 13 → q < 13 → has up p q ≡ at cap p q

-- the first n numbers of b are the bits of a board in row order
pub record BytesOf (down one : List ℕ) (n : ℕ) (b : List ℕ) : Type 0 where
  pub len : length b ≡ 169
  pub is : (i : ℕ) → i < n → get_or b i 0 ≡ has down (i % 13) (i / 13) + has one (i / 13) (i % 13)

-- a place that one of the two sets has at most, and the next row of such places
pub record BitReady (down row one column : ℕ) : Type 0 where
  pub row_inside : row < 13
  pub column_inside : column < 13
  pub single : on down row + on one column ≤ 1

pub record WriteReady (down one : List ℕ) (row : ℕ) (b : List ℕ) : Type 0 where
  pub inside : row < 13
  pub before : BytesOf down one (row * 13) b
