-- Laws on the whole search, from the cap to the first matrix. Assumes nothing.
use mathlib.Core.Path.{◌≡◌, refl, sym, ap, ◌∙◌}
use mathlib.Core.List.{List}
use Prim.Native.Nat.{ℕ, zero, suc, ◌+◌, ◌*◌, ◌/◌, ◌%◌, ◌≤◌, ◌<◌}
use native.Mathlib.Nat.{mul-le-mul_left, mul-zero}
use native.Mathlib.Omega.{arith}
use lib.ListN.{get_or, replicate, get_or-replicate}
use Rattle.base.specs.Lists.{sum_to}
use Rattle.base.proofs.Sums.{sum_ext, sum_zero}
use Rattle.line_sums.specs.Clauses.{at, Caps, Matrix, Solvable, nth_cell, FirstMatrix, Board, board_of, start, Places, row_sum, col_sum, Flow, Feasible, RowsFilled, First, FreeOf, BytesOf}
use Rattle.paths.specs.Clauses.{NotBoth}
use Rattle.cell_order.specs.Order.{nth_row, nth_column}
use Rattle.sets.specs.Clauses.{on, has}
use Rattle.sets.proofs.Members.{on_zero}
use Rattle.line_sums.proofs.Fills.{no_lack}
use Rattle.line_sums.proofs.Cells.{row_inside, column_inside}

-- the board's free places are those under the cap, and the others are 0
record Under (cap : List ℕ) (g : Board) : Type 0 where
  free : (p q : ℕ) → p < 13 → q < 13 → g.free p q ≡ at cap p q
  fixed : (p q : ℕ) → p < 13 → q < 13 → g.free p q ≡ 0 → g.bit p q ≡ 0

-- a matrix under the cap goes with such a board
flow_of : {cap rows cols : List ℕ} {g : Board} {r c : ℕ → ℕ} {w : ℕ} {x : ℕ → ℕ → ℕ} → Caps cap → Under cap g
    → ((p : ℕ) → p < 13 → r p ≡ get_or rows p 0) → ((q : ℕ) → q < 13 → c q ≡ get_or cols q 0) → Matrix w cap rows cols x → Flow w g r c x
flow_of {cap} {w = w} b u er ec m = record {
  le = λ p q hp hq. let h = mul-le-mul_left w (b.bit p q hp hq) in omega (arith, m.le p q hp hq);
  fixed = λ p q hp hq z.
      let e : at cap p q ≡ 0 = sym (u.free p q hp hq) ∙ z in
      let h = rw e at (m.le p q hp hq) in
      rw (u.fixed p q hp hq z) (omega (arith, mul-zero w));
  row = λ p hp. m.row p hp ∙ ap (λ (n : ℕ). w * n) (sym (er p hp));
  col = λ q hq. m.col q hq ∙ ap (λ (n : ℕ). w * n) (sym (ec q hq));
}

abbrev zeros : List ℕ
zeros = replicate 13 0

none : (p q : ℕ) → p < 13 → has zeros p q ≡ 0
none p q h = ap (λ (n : ℕ). on n q) (get_or-replicate {A = ℕ} 13 p 0 0 h) ∙ on_zero q

no_bit : (p q : ℕ) → p < 13 → q < 13 → has zeros q p + has zeros p q ≡ 0
no_bit p q hp hq = omega (arith, none p q hp, none q p hq)

row_start : (up : List ℕ) (p : ℕ) → p < 13 → row_sum (start up zeros) p ≡ 0
unfolding row_sum
row_start up p h = sum_ext 13 (λ q. has zeros q p + has zeros p q) (λ q. 0) (λ q l. no_bit p q h l) ∙ sum_zero 13

col_start : (up : List ℕ) (q : ℕ) → q < 13 → col_sum (start up zeros) q ≡ 0
unfolding col_sum
col_start up q h = sum_ext 13 (λ p. has zeros q p + has zeros p q) (λ p. 0) (λ p l. no_bit p q l h) ∙ sum_zero 13

-- before the filling: every place under the cap is free and 0
module _ {cap rows cols up lack : List ℕ} (b : Caps cap) (s : Solvable cap rows cols) (u : FreeOf cap up) (l : lack ≡ cols) where
  pub apart_start : NotBoth up zeros
  apart_start = record { up_len = u.len; down_len = refl; one = λ p q hp hq. omega (arith, u.is p q hp hq, b.bit p q hp hq, none q p hq) }

  under_start : Under cap (start up zeros)
  under_start = record { free = λ p q hp hq. omega (arith, u.is p q hp hq, none q p hq); fixed = λ p q hp hq z. no_bit p q hp hq }

  row_need : (p : ℕ) → p < 13 → row_sum (start up zeros) p + get_or rows p 0 ≡ get_or rows p 0
  row_need p h = omega (arith, row_start up p h)

  col_need : (q : ℕ) → q < 13 → col_sum (start up zeros) q + get_or lack q 0 ≡ get_or cols q 0
  col_need q h = rw l (omega (arith, col_start up q h))

  pub feasible_start : Feasible (start up zeros) (λ p. row_sum (start up zeros) p + get_or rows p 0) (λ q. col_sum (start up zeros) q + get_or lack q 0)
  feasible_start = record { w = s.w; pos = s.pos; x = s.x; flow = flow_of b under_start row_need col_need s.matrix }

  -- after it: the lines have their sums
  module _ {g : Board} {lack' : List ℕ} (f : RowsFilled (start up zeros) g lack lack' (λ p. get_or rows p 0)) where
    under_filled : Under cap g
    under_filled = record {
      free = λ p q hp hq. f.free p q ∙ under_start.free p q hp hq;
      fixed = λ p q hp hq z. f.kept p q (sym (f.free p q) ∙ z) ∙ no_bit p q hp hq;
    }

    row_filled : (p : ℕ) → p < 13 → row_sum g p ≡ get_or rows p 0
    row_filled p h = f.rows p h ∙ row_need p h

    col_filled : (q : ℕ) → q < 13 → col_sum g q ≡ get_or cols q 0
    col_filled q h = no_lack g lack' feasible_start f.rows f.cols q h ∙ col_need q h

    -- after the cells are fixed: the first matrix
    module _ {up' down' one' m : List ℕ} (t : Places up' down' one') (a : First g (board_of up' down' one') 144) (y : BytesOf down' one' 169 m) where
      bit : (p q : ℕ) → p < 13 → q < 13 → at m p q ≡ has down' q p + has one' p q
      bit p q hp hq =
          let i : (p * 13 + q) / 13 ≡ p = omega arith in
          let j : (p * 13 + q) % 13 ≡ q = omega arith in
          rw (i, j) at (y.is (p * 13 + q) (omega arith))

      below : (p q : ℕ) → p < 13 → q < 13 → (n : ℕ) → at cap p q ≡ n → at m p q ≤ 1 * at cap p q
      below p q hp hq zero e =
          let z = under_filled.free p q hp hq ∙ e in
          omega (arith, bit p q hp hq, a.kept p q hp hq z, under_filled.fixed p q hp hq z)
      below p q hp hq (suc n) e = omega (arith, bit p q hp hq, t.single p q hp hq)

      cell : (n : ℕ) → n < 144 → nth_cell (at m) n ≡ nth_cell (λ p q. has down' q p + has one' p q) n
      cell n h = bit (nth_row 12 12 n) (nth_column 12 12 n) (row_inside n h) (column_inside n h)

      row_sum_lem : (p : ℕ) → p < 13 → sum_to 13 (λ q. at m p q) ≡ row_sum (board_of up' down' one') p
      unfolding row_sum
      row_sum_lem p h = sum_ext 13 (λ q. at m p q) (λ q. has down' q p + has one' p q) (λ q l. bit p q h l)

      col_sum_lem : (q : ℕ) → q < 13 → sum_to 13 (λ p. at m p q) ≡ col_sum (board_of up' down' one') q
      unfolding col_sum
      col_sum_lem q h = sum_ext 13 (λ p. at m p q) (λ p. has down' q p + has one' p q) (λ p l. bit p q l h)

      pub first_matrix : FirstMatrix cap rows cols m
      first_matrix = record {
        len = y.len;
        matrix = record {
          le = λ p q hp hq. below p q hp hq (at cap p q) refl;
          row = λ p h. omega (arith, row_sum_lem p h, a.rows p, row_filled p h);
          col = λ q h. omega (arith, col_sum_lem q h, a.cols q, col_filled q h);
        };
        first = λ x f n h e. rw (cell n h) (a.least x (flow_of b under_filled row_filled col_filled f) n h (λ j l. e j l ∙ cell j (omega arith)));
      }
