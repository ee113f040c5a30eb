-- Laws on the filling of rows. Assumes nothing.
use mathlib.Core.Path.{◌≡◌, refl, sym, ap, ◌∙◌}
use mathlib.Core.List.{List}
use Rattle.std.proofs.Common.{Option, Some, None, IsSome, subst}
use Prim.Native.Nat.{ℕ, ◌+◌, ◌-◌, ◌*◌, ◌≤◌, ◌<◌, min}
use native.Mathlib.Nat.{add-mul, le_antisymm, le_of_mul-le-mul_left}
use native.Mathlib.Decide.{ℕ_discrete, dec_lt}
use native.Mathlib.Omega.{arith}
use borrow.Author.Tests.{le-leb, lt-leb}
use lib.Dec.{leb}
use lib.ListN.{length, get_or, set, length-set, replicate}
use lib.Seq.{get_or-set_same, get_or-set_other}
use Rattle.base.specs.Lists.{sum_to}
use Rattle.base.proofs.Sums.{sum_ext, sum_add, sum_mul, sum_swap, sum_term}
use Rattle.sets.specs.Clauses.{num, ind, on, Without}
use Rattle.paths.specs.Clauses.{Stuck, OneMore}
use Rattle.paths.specs.Calls.{Augmented}
use Rattle.paths.specs.declared.FreePlaces.{FreePlaces}
use Rattle.line_sums.specs.Clauses.{Board, board_of, start, Places, row_sum, col_sum, Feasible, Room, RowsFilled, Lacking, LacksOne}
use Rattle.sets.proofs.Indicators.{ind_same, ind_other}
use Rattle.line_sums.proofs.Fixes.{places_free, row_more, col_more}
use Rattle.line_sums.proofs.Cuts.{cut}

-- nothing filled
pub filled_none : {g : Board} {lack : List ℕ} {a : ℕ → ℕ} → length lack ≡ 13 → ((p : ℕ) → p < 13 → a p ≡ 0) → RowsFilled g g lack lack a
filled_none h z = record { lack_len = h; free = λ p q. refl; kept = λ p q e. refl; rows = λ p hp. omega (arith, z p hp); cols = λ q hq. refl }

-- one filling after another
pub filled_then : {g₀ g g' : Board} {lack₀ lack lack' : List ℕ} {a b c : ℕ → ℕ} → RowsFilled g₀ g lack₀ lack a → RowsFilled g g' lack lack' b
    → ((p : ℕ) → p < 13 → c p ≡ a p + b p) → RowsFilled g₀ g' lack₀ lack' c
filled_then f f' e = record {
  lack_len = f'.lack_len;
  free = λ p q. f'.free p q ∙ f.free p q;
  kept = λ p q z. f'.kept p q (f.free p q ∙ z) ∙ f.kept p q z;
  rows = λ p hp. omega (arith, f.rows p hp, f'.rows p hp, e p hp);
  cols = λ q hq. f'.cols q hq ∙ f.cols q hq;
}

pub filled_as : {g g' : Board} {lack lack' : List ℕ} {a b : ℕ → ℕ} → RowsFilled g g' lack lack' a → ((p : ℕ) → p < 13 → b p ≡ a p) → RowsFilled g g' lack lack' b
filled_as f e = filled_then f (filled_none f.lack_len (λ p hp. refl)) (λ p hp. omega (arith, e p hp))

-- what can be had from g can be had from g', with the lack that is left
feasible_filled : {g g' : Board} {lack lack' : List ℕ} {a rows : ℕ → ℕ} → RowsFilled g g' lack lack' a
    → Feasible g rows (λ q. col_sum g q + get_or lack q 0) → Feasible g' rows (λ q. col_sum g' q + get_or lack' q 0)
feasible_filled f s =
    let x = s.flow in record {
      w = s.w;
      pos = s.pos;
      x = s.x;
      flow = record {
        le = x.le;
        fixed = λ p q hp hq z.
            let y = sym (f.free p q) ∙ z in x.fixed p q hp hq y ∙ ap (λ (n : ℕ). s.w * n) (sym (f.kept p q y));
        row = x.row;
        col = λ q hq. x.col q hq ∙ ap (λ (n : ℕ). s.w * n) (sym (f.cols q hq));
      };
    }

-- one search, with the columns that lack something
module _ {up down one lack : List ℕ} {columns : ℕ} (m : Places up down one) (len : length lack ≡ 13) (l : Lacking lack columns) where
  -- the search cannot be stuck where there is room
  pub not_stuck : {i n : ℕ} → i < 13 → 0 < n → Room (board_of up down one) lack i n → Stuck up down columns i → ⊥
  not_stuck {i} {n} hi pos r k =
      cut hi m k r.feasible
      (λ p hp. omega (arith, r.enough p hp))
      (let e = rw (ind_same i) at (r.enough i hi) in omega arith)
      (λ q hq z. omega (arith, l.is q hq))

  -- the column that it comes to lacks something
  pub has_lack : {j : ℕ} → j < 13 → on columns j ≡ 1 → 0 < get_or lack j 0
  has_lack {j} hj o = omega (arith, l.is j hj)

  pub filled_one : {up' down' : List ℕ} {i j : ℕ} → j < 13 → on columns j ≡ 1 → OneMore up down up' down' i j
      → RowsFilled (board_of up down one) (board_of up' down' one) lack (set lack j (get_or lack j 0 - 1)) (λ p. ind p i)
  filled_one {up'} {down'} {i} {j} hj o v = record {
    lack_len = length-set lack j (get_or lack j 0 - 1) ∙ len;
    free = v.free;
    kept = λ p q z. omega (arith, v.free p q);
    rows = λ p hp. row_more m v p;
    cols = λ q hq. go q (ℕ_discrete q j);
  }
    where
      go : (q : ℕ) → Dec (q ≡ j) → col_sum (board_of up' down' one) q + get_or (set lack j (get_or lack j 0 - 1)) q 0 ≡ col_sum (board_of up down one) q + get_or lack q 0
      go q (yes e) =
          rw (e, get_or-set_same lack j (get_or lack j 0 - 1) 0 (omega arith)) (omega (arith, col_more m v j, ind_same j, has_lack hj o))
      go q (no n) = rw (get_or-set_other lack j q (get_or lack j 0 - 1) 0 n) (omega (arith, col_more m v q, ind_other q j n))

-- the columns that lack something, where column j lacks nothing more
pub lacking_without : {lack : List ℕ} {columns j left columns' : ℕ} → Lacking lack columns → LacksOne lack j → left ≡ 0 → Without columns j columns' → Lacking (set lack j left) columns'
lacking_without {lack} {columns} {j} {left} {columns'} l r z w = record { is = λ q hq. go q hq (ℕ_discrete q j) }
  where
    go : (q : ℕ) → q < 13 → Dec (q ≡ j) → on columns' q ≡ min (get_or (set lack j left) q 0) 1
    go q hq (yes s) = rw (s, get_or-set_same lack j left 0 (omega (arith, r.len, r.inside))) (omega (arith, w.is j, ind_same j, l.is j r.inside, r.some))
    go q hq (no n) = rw (get_or-set_other lack j q left 0 n) (omega (arith, w.is q, ind_other q j n, l.is q hq))

-- with k of n filled, there is room for the others
room_left : {g g' : Board} {lack lack' : List ℕ} {i n k : ℕ} → k ≤ n → Room g lack i n → RowsFilled g g' lack lack' (λ p. k * ind p i) → Room g' lack' i (n - k)
room_left {i = i} {n = n} {k = k} h r f = record {
  rows = r.rows;
  enough = λ p hp. let e : k + (n - k) ≡ n = omega arith in
      omega (arith, r.enough p hp, f.rows p hp, add-mul k (n - k) (ind p i), ap (λ (x : ℕ). x * ind p i) e);
  feasible = feasible_filled f r.feasible;
}

-- with k more in row i
module _ {g₀ : Board} {lack₀ lack : List ℕ} {columns : ℕ} (m m' : FreePlaces) (i k : ℕ) (a : RowsFilled g₀ (start m.up m.down) lack₀ lack (λ p. k * ind p i)) (l : Lacking lack columns) where
  places : Places m.up m.down (replicate 13 0)
  places = places_free m.apart

  -- a search finds a column where more is to come
  pub found : {n : ℕ} (o : Option ℕ) → i < 13 → k < n → Room g₀ lack₀ i n → Augmented m m' columns i o → IsSome o
  found {n} (Some j) hi h r g = refl
  found {n} None hi h r g = absurd (not_stuck places a.lack_len l hi (let x : 0 < n - k = omega arith in x) (room_left (omega arith) r a) g.1)

  -- it lacks something
  pub found_lacks : {o : Option ℕ} {j : ℕ} → Augmented m m' columns i o → o ≡ Some j → LacksOne lack j
  found_lacks {o} {j} g e = let h = subst (Augmented m m' columns i) e g in record { inside = h.0; len = a.lack_len; some = has_lack places a.lack_len l h.0 h.1 }

  pub row_step : {o : Option ℕ} {j : ℕ} {lack' : List ℕ} → Augmented m m' columns i o → o ≡ Some j → lack' ≡ set lack j (get_or lack j 0 - 1)
      → RowsFilled g₀ (start m'.up m'.down) lack₀ lack' (λ p. (k + 1) * ind p i)
  row_step {o} {j} g e t =
      let h = subst (Augmented m m' columns i) e g in
      rw t (filled_then a (filled_one places a.lack_len l h.0 h.1 h.2) (λ p hp. omega (arith, add-mul k 1 (ind p i))))

-- what the rows from row k on are to have more, and the others nothing
unfoldable pub rows_from : List ℕ → ℕ → ℕ → ℕ
rows_from more k p = num (leb k p) * get_or more p 0

rows_filled : (more : List ℕ) (k p : ℕ) → k ≤ p → rows_from more k p ≡ get_or more p 0
unfolding rows_from
rows_filled more k p h = rw (le-leb _ _ h) (omega arith)

rows_empty : (more : List ℕ) (k p : ℕ) → p < k → rows_from more k p ≡ 0
unfolding rows_from
rows_empty more k p h = rw (lt-leb _ _ h) (omega arith)

pub rows_none : (more : List ℕ) {k : ℕ} → 13 ≤ k → (p : ℕ) → p < 13 → rows_from more k p ≡ 0
rows_none more {k} z p h = rows_empty more k p (omega arith)

pub rows_all : (more : List ℕ) {k : ℕ} → k ≤ 0 → (p : ℕ) → p < 13 → get_or more p 0 ≡ rows_from more k p
rows_all more {k} h p hp = sym (rows_filled more k p (omega arith))

pub rows_next : (more : List ℕ) {k : ℕ} → 0 < k → (p : ℕ) → p < 13 → rows_from more (k - 1) p ≡ rows_from more k p + get_or more (k - 1) 0 * ind p (k - 1)
rows_next more {k} hk p hp = go (ℕ_discrete p (k - 1)) (dec_lt p k)
  where
    go : Dec (p ≡ k - 1) → Dec (p < k) → rows_from more (k - 1) p ≡ rows_from more k p + get_or more (k - 1) 0 * ind p (k - 1)
    go (yes e) d =
        rw (e, ind_same (k - 1), rows_filled more (k - 1) (k - 1) (omega arith), rows_empty more k (k - 1) (omega arith)) (omega arith)
    go (no n) (yes l) =
        rw (ind_other p (k - 1) n, rows_empty more (k - 1) p (omega arith), rows_empty more k p l) (omega arith)
    go (no n) (no l) =
        rw (ind_other p (k - 1) n, rows_filled more (k - 1) p (omega arith), rows_filled more k p (omega arith)) (omega arith)

rows_le : (more : List ℕ) (k p : ℕ) → rows_from more k p ≤ get_or more p 0
rows_le more k p = go (dec_lt p k)
  where
    go : Dec (p < k) → rows_from more k p ≤ get_or more p 0
    go (yes l) = omega (arith, rows_empty more k p l)
    go (no n) = omega (arith, rows_filled more k p (omega arith))

-- with the rows from row k on filled, there is room in the row before
pub room_next : {g g' : Board} {lack lack' : List ℕ} (more : List ℕ) {k : ℕ} → 0 < k
    → Feasible g (λ p. row_sum g p + get_or more p 0) (λ q. col_sum g q + get_or lack q 0) → RowsFilled g g' lack lack' (rows_from more k)
    → Room g' lack' (k - 1) (get_or more (k - 1) 0)
room_next {g} more {k} hk s f = record {
  rows = λ p. row_sum g p + get_or more p 0;
  enough = λ p hp. omega (arith, f.rows p hp, rows_next more hk p hp, rows_le more (k - 1) p);
  feasible = feasible_filled f s;
}

-- where the rows have their sums, the columns have theirs
module _ {g : Board} (g' : Board) (lack' : List ℕ) {rows cols : ℕ → ℕ} (s : Feasible g rows cols)
    (hr : (p : ℕ) → p < 13 → row_sum g' p ≡ rows p) (hc : (q : ℕ) → q < 13 → col_sum g' q + get_or lack' q 0 ≡ cols q) where
  scaled : s.w * sum_to 13 rows ≡ s.w * sum_to 13 cols
  scaled =
      sym (sum_mul 13 s.w rows) ∙ sym (sum_ext 13 (λ p. sum_to 13 (λ q. s.x p q)) (λ p. s.w * rows p) s.flow.row)
      ∙ sum_swap 13 13 s.x ∙ sum_ext 13 (λ q. sum_to 13 (λ p. s.x p q)) (λ q. s.w * cols q) s.flow.col ∙ sum_mul 13 s.w cols

  same_total : sum_to 13 rows ≡ sum_to 13 cols
  same_total =
      le_antisymm (le_of_mul-le-mul_left {k = s.w} (omega (arith, scaled)) s.pos) (le_of_mul-le-mul_left {k = s.w} (omega (arith, scaled)) s.pos)

  bits : sum_to 13 (row_sum g') ≡ sum_to 13 (col_sum g')
  unfolding row_sum col_sum
  bits = sum_swap 13 13 (λ p q. g'.bit p q)

  none_left : sum_to 13 (λ q. get_or lack' q 0) ≡ 0
  none_left = omega (
    arith,
    same_total,
    bits,
    sum_ext 13 (row_sum g') rows hr,
    sum_ext 13 (λ q. col_sum g' q + get_or lack' q 0) cols hc,
    sum_add 13 (col_sum g') (λ q. get_or lack' q 0),
  )

  pub no_lack : (q : ℕ) → q < 13 → col_sum g' q ≡ cols q
  no_lack q h = omega (arith, hc q h, none_left, sum_term 13 (λ j. get_or lack' j 0) q h)
