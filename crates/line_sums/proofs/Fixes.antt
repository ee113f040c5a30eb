-- Laws on the fixing of places. Assumes nothing.
use mathlib.Core.Path.{◌≡◌, refl, sym, ap, ap₂, ◌∙◌}
use mathlib.Core.List.{List}
use Rattle.std.proofs.Common.{Option, Some, None, is_some, Bool, true, false, not}
use Prim.Native.Nat.{ℕ, zero, suc, ◌+◌, ◌*◌, ◌≤◌, ◌<◌}
use native.Mathlib.Decide.{ℕ_discrete, dec_lt}
use native.Mathlib.Omega.{arith}
use borrow.Author.Count.{below_more}
use lib.ListN.{get_or, set, length-set, replicate, get_or-replicate}
use Rattle.base.specs.Lists.{sum_to}
use Rattle.cell_order.specs.Order.{nth_row, nth_column, rank}
use Rattle.cell_order.proofs.Ranks.{rank_row, rank_column}
use Rattle.sets.proofs.Members.{on_zero}
use Rattle.sets.specs.Clauses.{ind, on, has, Single, With, Without}
use Rattle.line_sums.specs.Clauses.{nth_cell, Board, board_of, Places, row_sum, col_sum, Flow, Allowed, Fixed, First}
use Rattle.paths.specs.Calls.{Augmented}
use Rattle.paths.specs.Clauses.{Stuck, NotBoth, same_place, row_ones, col_ones, OneMore}
use Rattle.base.proofs.Sums.{sum_ext, sum_add}
use Rattle.sets.proofs.Indicators.{ind_same, ind_eq}
use Rattle.paths.proofs.Paths.{place_swap, place_other_row, place_other_col, place_in_row, gain_row, gain_col, taken, put}
use Rattle.paths.specs.declared.FreePlaces.{FreePlaces}
use Rattle.line_sums.proofs.Cuts.{cut}
use Rattle.line_sums.proofs.Cells.{row_below, column_below, rank_is, row_inside, column_inside}

-- a line's sum: the free ones and the fixed ones
row_split : (up down one : List ℕ) (p : ℕ) → row_sum (board_of up down one) p ≡ row_ones down p + sum_to 13 (λ q. has one p q)
unfolding row_sum row_ones
row_split up down one p = sum_add 13 (λ q. has down q p) (λ q. has one p q)

col_split : (up down one : List ℕ) (q : ℕ) → col_sum (board_of up down one) q ≡ col_ones down q + sum_to 13 (λ p. has one p q)
unfolding col_sum col_ones
col_split up down one q = sum_add 13 (λ p. has down q p) (λ p. has one p q)

row_same : (g g' : Board) → ((p q : ℕ) → g'.bit p q ≡ g.bit p q) → (p : ℕ) → row_sum g' p ≡ row_sum g p
unfolding row_sum
row_same g g' e p = sum_ext 13 (λ q. g'.bit p q) (λ q. g.bit p q) (λ q h. e p q)

col_same : (g g' : Board) → ((p q : ℕ) → g'.bit p q ≡ g.bit p q) → (q : ℕ) → col_sum g' q ≡ col_sum g q
unfolding col_sum
col_same g g' e q = sum_ext 13 (λ p. g'.bit p q) (λ p. g.bit p q) (λ p h. e p q)

place_same : (p q : ℕ) → same_place p p q q ≡ 1
place_same p q = place_in_row p q q ∙ ind_same q

place_other : (x p y q : ℕ) → ((x ≡ p) × (y ≡ q) → ⊥) → same_place x p y q ≡ 0
place_other x p y q n = go (ℕ_discrete x p)
  where
    go : Dec (x ≡ p) → same_place x p y q ≡ 0
    go (yes e) = place_other_col x p y q (λ z. n (e, z))
    go (no m) = place_other_row x p y q m

-- a place is the one in question or another
data Which (x p y q : ℕ) : Type 0 where
  same : x ≡ p → y ≡ q → Which x p y q
  other : same_place x p y q ≡ 0 → Which x p y q

which : (x p y q : ℕ) → Which x p y q
which x p y q = go (ℕ_discrete x p) (ℕ_discrete y q)
  where
    go : Dec (x ≡ p) → Dec (y ≡ q) → Which x p y q
    go (yes e) (yes f) = same e f
    go (yes e) (no n) = other (place_other_col x p y q n)
    go (no n) d = other (place_other_row x p y q n)

-- places are free and 0 or free and 1, and not both
pub apart_places : {up down one : List ℕ} → Places up down one → NotBoth up down
apart_places m = record { up_len = m.up_len; down_len = m.down_len; one = λ p q hp hq. omega (arith, m.single p q hp hq) }

-- with no place fixed at 1
pub places_free : {up down : List ℕ} → NotBoth up down → Places up down (replicate 13 0)
places_free {up} {down} m = record {
  up_len = m.up_len;
  down_len = m.down_len;
  one_len = refl;
  single = λ p q hp hq. omega (arith, m.one p q hp hq, none p q hp);
}
  where
    none : (p q : ℕ) → p < 13 → has (replicate 13 0) p q ≡ 0
    none p q h = ap (λ (n : ℕ). on n q) (get_or-replicate {A = ℕ} 13 p 0 0 h) ∙ on_zero q

-- one more in a row and a column
module _ {up down one up' down' : List ℕ} {row column : ℕ} (m : Places up down one) (v : OneMore up down up' down' row column) where
  pub places_more : Places up' down' one
  places_more = record {
    up_len = v.up_len;
    down_len = v.down_len;
    one_len = m.one_len;
    single = λ p q hp hq. omega (arith, m.single p q hp hq, v.free p q);
  }

  pub row_more : (p : ℕ) → row_sum (board_of up' down' one) p ≡ row_sum (board_of up down one) p + ind p row
  row_more p = omega (arith, row_split up down one p, row_split up' down' one p, v.in_row p)

  pub col_more : (q : ℕ) → col_sum (board_of up' down' one) q ≡ col_sum (board_of up down one) q + ind q column
  col_more q = omega (arith, col_split up down one q, col_split up' down' one q, v.in_col q)

module _ {up down one : List ℕ} {i j : ℕ} (m : Places up down one) (hi : i < 13) (hj : j < 13) where
  -- a place that is fixed
  pub fix_none : {u d : ℕ} → u ≡ has up i j → (u ≡ 1 → ⊥) → d ≡ has down j i → (d ≡ 1 → ⊥) → Fixed (board_of up down one) (board_of up down one) i j
  fix_none eu nu ed nd =
      let z : has up i j + has down j i ≡ 0 = omega (arith, m.single i j hi hj) in record {
        rows = λ p. refl;
        cols = λ q. refl;
        here = z;
        others = λ p q hp hq n. refl;
        fewer = λ p q. omega arith;
        kept = λ p q hp hq n. refl;
        least = λ x f. omega (arith, f.fixed i j hi hj z);
      }

  -- a place that is free and 0
  module _ {r : ℕ} (e : has up i j ≡ 1) (w : Without (get_or up i 0) j r) where
    is_up : (x y : ℕ) → has (set up i r) x y + same_place x i y j ≡ has up x y
    is_up = taken up i j r m.up_len hi w

    pub fix_up : Fixed (board_of up down one) (board_of (set up i r) down one) i j
    fix_up = record {
      rows = λ p. omega (arith, row_split up down one p, row_split (set up i r) down one p);
      cols = λ q. omega (arith, col_split up down one q, col_split (set up i r) down one q);
      here = omega (arith, is_up i j, place_same i j, m.single i j hi hj);
      others = λ p q hp hq n. omega (arith, is_up p q, place_other p i q j n);
      fewer = λ p q. omega (arith, is_up p q);
      kept = λ p q hp hq z. refl;
      least = λ x f. omega (arith, m.single i j hi hj);
    }

  -- a place that is free and 1
  module _ {r : ℕ} (e : has down j i ≡ 1) (w : Without (get_or down j 0) i r) where
    is_down : (x y : ℕ) → has (set down j r) y x + same_place x i y j ≡ has down y x
    is_down x y = omega (arith, taken down j i r m.down_len hj w y x, place_swap y j x i)

    pub places_down : Places up (set down j r) one
    places_down = record {
      up_len = m.up_len;
      down_len = length-set down j r ∙ m.down_len;
      one_len = m.one_len;
      single = λ p q hp hq. omega (arith, m.single p q hp hq, is_down p q);
    }

    rows_down : (p : ℕ) → row_sum (board_of up (set down j r) one) p + ind p i ≡ row_sum (board_of up down one) p
    rows_down p = omega (arith, row_split up down one p, row_split up (set down j r) one p, gain_row (set down j r) down i j hi hj (λ x y. sym (is_down x y)) p)

    cols_down : (q : ℕ) → col_sum (board_of up (set down j r) one) q + ind q j ≡ col_sum (board_of up down one) q
    cols_down q = omega (arith, col_split up down one q, col_split up (set down j r) one q, gain_col (set down j r) down i j hi hj (λ x y. sym (is_down x y)) q)

    -- it can be 0
    pub fix_zero : {up' down' : List ℕ} {ends end : ℕ} → Single j ends → on ends end ≡ 1 → OneMore up (set down j r) up' down' i end → Fixed (board_of up down one) (board_of up' down' one) i j
    fix_zero {up'} {down'} {ends} {end} l h v = record {
      rows = λ p. omega (arith, row_more places_down v p, rows_down p);
      cols = λ q. let c = rw to at (col_more places_down v q) in omega (arith, cols_down q);
      here = none;
      others = λ p q hp hq n. omega (arith, v.free p q, is_down p q, place_other p i q j n);
      fewer = λ p q. omega (arith, v.free p q, is_down p q);
      kept = λ p q hp hq z. omega (arith, v.free p q, is_down p q);
      least = λ x f. omega (arith, none, m.single i j hi hj);
    }
      where
        to : end ≡ j
        to = ind_eq end j (sym (l.is end) ∙ h)

        none : has up' i j + has down' j i ≡ 0
        none = omega (arith, v.free i j, is_down i j, place_same i j, m.single i j hi hj)

    -- a matrix with a 0 here goes with what is left
    flow_down : (x : ℕ → ℕ → ℕ) → Allowed (board_of up down one) x → x i j ≡ 0 → Flow 1 (board_of up (set down j r) one) (row_sum (board_of up down one)) (col_sum (board_of up down one)) x
    flow_down x f o = record { le = f.le; fixed = λ p q hp hq z. go p q hp hq z (which p i q j); row = f.row; col = f.col }
      where
        go : (p q : ℕ) → p < 13 → q < 13 → has up p q + has (set down j r) q p ≡ 0 → Which p i q j → x p q ≡ 1 * (has (set down j r) q p + has one p q)
        go p q hp hq z (same a b) = rw (a, b) (omega (arith, is_down i j, place_same i j, m.single i j hi hj))
        go p q hp hq z (other n) = omega (arith, is_down p q, f.fixed p q hp hq (omega (arith, is_down p q)))

    -- it cannot
    module _ {r' : ℕ} (v : With (get_or one i 0) j r') where
      is_one : (x y : ℕ) → has (set one i r') x y ≡ has one x y + same_place x i y j
      is_one = put one i j r' m.one_len hi v

      pub places_one : Places up (set down j r) (set one i r')
      places_one = record {
        up_len = m.up_len;
        down_len = places_down.down_len;
        one_len = length-set one i r' ∙ m.one_len;
        single = λ p q hp hq. omega (arith, m.single p q hp hq, is_down p q, is_one p q);
      }

      bits : (p q : ℕ) → has (set down j r) q p + has (set one i r') p q ≡ has down q p + has one p q
      bits p q = omega (arith, is_down p q, is_one p q)

      pub fix_one : {ends : ℕ} → Single j ends → Stuck up (set down j r) ends i → Fixed (board_of up down one) (board_of up (set down j r) (set one i r')) i j
      fix_one {ends} l k = record {
        rows = row_same (board_of up down one) (board_of up (set down j r) (set one i r')) bits;
        cols = col_same (board_of up down one) (board_of up (set down j r) (set one i r')) bits;
        here = omega (arith, is_down i j, place_same i j, m.single i j hi hj);
        others = λ p q hp hq n. omega (arith, is_down p q, place_other p i q j n);
        fewer = λ p q. omega (arith, is_down p q);
        kept = λ p q hp hq z. bits p q;
        least = λ x f. least x f (x i j) refl;
      }
        where
          least : (x : ℕ → ℕ → ℕ) → Allowed (board_of up down one) x → (n : ℕ) → x i j ≡ n → has (set down j r) j i + has (set one i r') i j ≤ x i j
          least x f zero o =
              absurd (cut hi places_down k (record { w = 1; pos = omega arith; x = x; flow = flow_down x f o })
              (λ p h. omega (arith, rows_down p)) (omega (arith, rows_down i, ind_same i)) (λ q h z. omega (arith, cols_down q, l.is q)))
          least x f (suc n) o = omega (arith, bits i j, m.single i j hi hj)

-- what a search for another place says, where it finds none and where it finds one
module _ (m m' : FreePlaces) (ends i : ℕ) where
  pub stuck_at : (o : Option ℕ) {b : Bool} → Augmented m m' ends i o → is_some o ≡ not b → b ≡ true → (m' ≡ m) × Stuck m.up m.down ends i
  stuck_at (Some j) g e t = let x : true ≡ false = rw t at e in cc
  stuck_at None g e t = g

  pub moved_to : (o : Option ℕ) {b : Bool} → Augmented m m' ends i o → is_some o ≡ not b → b ≡ false → (j : ℕ) × ((on ends j ≡ 1) × OneMore m.up m.down m'.up m'.down i j)
  moved_to (Some j) g e t = (j, (g.1, g.2))
  moved_to None g e t = let x : false ≡ true = rw t at e in cc

pub first_none : {g : Board} → First g g 0
first_none = record {
  rows = λ p. refl;
  cols = λ q. refl;
  fixed = λ n h. absurd (omega arith);
  others = λ p q hp hq n. refl;
  fewer = λ p q. omega arith;
  kept = λ p q hp hq z. refl;
  least = λ x f n h. absurd (omega arith);
}

-- one cell more
module _ {g₀ g g' : Board} {k : ℕ} (hk : k < 144) (a : First g₀ g k) (b : Fixed g g' (nth_row 12 12 k) (nth_column 12 12 k)) where
  -- the cells before are others, and stay
  apart : (n : ℕ) → n < k → (nth_row 12 12 n ≡ nth_row 12 12 k) × (nth_column 12 12 n ≡ nth_column 12 12 k) → ⊥
  apart n h z =
      let same : rank 12 12 (nth_row 12 12 n) (nth_column 12 12 n) ≡ rank 12 12 (nth_row 12 12 k) (nth_column 12 12 k) = ap₂ (rank 12 12) z.0 z.1 in
      omega (arith, rank_is n (omega arith), rank_is k hk)

  earlier : (n : ℕ) → n < k → nth_cell g'.bit n ≡ nth_cell g.bit n
  earlier n h = b.kept (nth_row 12 12 n) (nth_column 12 12 n) (row_inside n (omega arith)) (column_inside n (omega arith)) (a.fixed n h)

  -- a matrix that g₀ allows and that has the cells of g before k is allowed by g
  narrower : (x : ℕ → ℕ → ℕ) → Allowed g₀ x → ((n : ℕ) → n < k → nth_cell x n ≡ nth_cell g'.bit n) → Allowed g x
  narrower x f e = record {
    le = f.le;
    fixed = λ p q hp hq z. go p q hp hq z (dec_lt p 12) (dec_lt q 12) (dec_lt (rank 12 12 p q) k);
    row = λ p h. f.row p h ∙ ap (λ (n : ℕ). 1 * n) (sym (a.rows p));
    col = λ q h. f.col q h ∙ ap (λ (n : ℕ). 1 * n) (sym (a.cols q));
  }
    where
      old : (p q : ℕ) → p < 13 → q < 13 → g.free p q ≡ 0 → ((n : ℕ) → n < k → (p ≡ nth_row 12 12 n) × (q ≡ nth_column 12 12 n) → ⊥) → x p q ≡ 1 * g.bit p q
      old p q hp hq z n =
          let y : g₀.free p q ≡ 0 = sym (a.others p q hp hq n) ∙ z in
          f.fixed p q hp hq y ∙ ap (λ (v : ℕ). 1 * v) (sym (a.kept p q hp hq y))

      go : (p q : ℕ) → p < 13 → q < 13 → g.free p q ≡ 0 → Dec (p < 12) → Dec (q < 12) → Dec (rank 12 12 p q < k) → x p q ≡ 1 * g.bit p q
      go p q hp hq z (yes c) (yes d) (yes l) =
          let h = e (rank 12 12 p q) l ∙ earlier (rank 12 12 p q) l in
          let w : x p q ≡ g.bit p q = rw (rank_row c d, rank_column c d) at h in
          omega arith
      go p q hp hq z (yes c) (yes d) (no l) =
          old p q hp hq z (λ n h w. l (rw (w.0, w.1) (rw (rank_is n (omega arith)) h)))
      go p q hp hq z (yes c) (no d) l = old p q hp hq z (λ n h w. d (rw w.1 (column_below n (omega arith))))
      go p q hp hq z (no c) d l = old p q hp hq z (λ n h w. c (rw w.0 (row_below n (omega arith))))

  first_more : First g₀ g' (k + 1)
  first_more = record {
    rows = λ p. b.rows p ∙ a.rows p;
    cols = λ q. b.cols q ∙ a.cols q;
    fixed = below_more (λ (n : ℕ). nth_cell g'.free n ≡ 0) k
        (λ n h. b.others (nth_row 12 12 n) (nth_column 12 12 n) (row_inside n (omega arith)) (column_inside n (omega arith)) (apart n h) ∙ a.fixed n h)
        b.here;
    others = λ p q hp hq n. b.others p q hp hq (λ z. n k (omega arith) z) ∙ a.others p q hp hq (λ j h z. n j (omega arith) z);
    fewer = λ p q. omega (arith, a.fewer p q, b.fewer p q);
    kept = λ p q hp hq z. b.kept p q hp hq (omega (arith, a.fewer p q)) ∙ a.kept p q hp hq z;
    least = λ x f. below_more (λ (n : ℕ). ((m : ℕ) → m < n → nth_cell x m ≡ nth_cell g'.bit m) → nth_cell g'.bit n ≤ nth_cell x n) k
        (λ n h e. rw (earlier n h) (a.least x f n h (λ j l. e j l ∙ earlier j (omega arith))))
        (λ e. b.least x (narrower x f e));
  }

-- the same, with the row and the column as the functions give them
pub first_next : {g₀ g g' : Board} {k i j : ℕ} → k < 144 → First g₀ g k → i ≡ nth_row 12 12 k → j ≡ nth_column 12 12 k → Fixed g g' i j → First g₀ g' (k + 1)
first_next hk a ie je b = first_more hk a (rw (ie, je) at b)

pub cell_inside : {k i j : ℕ} → k < 144 → i ≡ nth_row 12 12 k → j ≡ nth_column 12 12 k → (i < 13) × (j < 13)
cell_inside {k} hk ie je = (omega (arith, row_inside k hk), omega (arith, column_inside k hk))
