-- Laws on the search, level by level. Assumes nothing.
use mathlib.Core.Path.{◌≡◌, refl, sym, ap, ◌∙◌, subst}
use mathlib.Core.Logic.{⊎_elim}
use mathlib.Core.List.{List}
use Prim.Native.Nat.{ℕ, zero, suc, ◌+◌, ◌≤◌, ◌<◌, min}
use native.Mathlib.Decide.{ℕ_discrete}
use native.Mathlib.Nat.{eq-or-lt_of_le}
use native.Mathlib.Omega.{arith}
use lib.ListN.{length, get_or, set, length-set}
use lib.Seq.{get_or-set_same, get_or-set_other}
use Rattle.base.specs.Lists.{sum_to}
use Rattle.sets.specs.Clauses.{on, has, Single, Some, Meet, Minus, Via, UnionOf}
use Rattle.paths.specs.Clauses.{Levels, Trail, Stuck}
use Rattle.base.proofs.Sums.{sum_lt, sum_ones, sum_term}
use Rattle.sets.proofs.Indicators.{ind_same, ind_other}
use Rattle.sets.proofs.Members.{on_le, on_zero, on_all, nonempty}

-- front is the last level's rows; rows_left and cols_left are the rows and the columns that are not reached
pub record Progress (up down : List ℕ) (ends start : ℕ) (rows cols : List ℕ) (k front rows_left cols_left : ℕ) : Type 0 where
  pub levels : Levels up down rows cols start k
  pub rows_len : length rows ≡ 14
  pub cols_len : length cols ≡ 14
  pub last : get_or rows k 0 ≡ front
  pub front_small : front < 8192
  pub rows_small : rows_left < 8192
  pub cols_small : cols_left < 8192
  pub row_seen : (i p : ℕ) → i ≤ k → has rows i p + on rows_left p ≤ 1
  pub col_seen : (i q : ℕ) → i < k → has cols i q + on cols_left q ≤ 1
  pub begin : on rows_left start ≡ 0
  pub ups : (p q : ℕ) → p < 13 → q < 13 → has up p q + on cols_left q ≤ 1 + on rows_left p + on front p
  pub downs : (p q : ℕ) → p < 13 → q < 13 → has down q p + on rows_left p ≤ 1 + on cols_left q
  pub full : (q : ℕ) → q < 13 → on ends q ≤ on cols_left q
  pub count : k + sum_to 13 (λ q. on cols_left q) ≤ 13

-- a meet has no more than its second
pub meet_sub : {a b r : ℕ} → Meet a b r → (j : ℕ) → on r j ≤ on b j
meet_sub m j = omega (arith, m.is j)

-- the members of a set of one
pub one_le : {start front : ℕ} → start < 13 → Single start front → (j : ℕ) → on front j ≤ on 8191 j
one_le {start} {front} h o j = go (ℕ_discrete j start)
  where
    go : Dec (j ≡ start) → on front j ≤ on 8191 j
    go (yes e) = rw e (omega (arith, on_all start h, on_le front start))
    go (no n) = omega (arith, o.is j, ind_other j start n)

module _ (up down rows cols : List ℕ) (ends : ℕ) {start front rows_left : ℕ} (h : start < 13) (rl : length rows ≡ 14) (cl : length cols ≡ 14) (o : Single start front) (m : Minus 8191 front rows_left) where
  here : get_or (set rows 0 front) 0 0 ≡ front
  here = get_or-set_same rows 0 front 0 (omega arith)

  at_zero : (i : ℕ) → i ≤ 0 → get_or (set rows 0 front) i 0 ≡ front
  at_zero i l = let e : i ≡ 0 = omega arith in rw e here

  pub progress_start : Progress up down ends start (set rows 0 front) cols 0 front rows_left 8191
  progress_start = record {
    levels = record {
      first = λ p. ap (λ (n : ℕ). on n p) here ∙ o.is p;
      row_small = λ i l. omega (arith, at_zero i l, o.small);
      col_small = λ i l. absurd (omega arith);
      col_from = λ i q l. absurd (omega arith);
      row_from = λ i q l. absurd (omega arith);
      row_apart = λ i j p l n. absurd (omega arith);
      col_apart = λ i j q l n. absurd (omega arith);
    };
    rows_len = length-set rows 0 front ∙ rl;
    cols_len = cl;
    last = here;
    front_small = o.small;
    rows_small = m.small;
    cols_small = omega arith;
    row_seen = λ i p l. rw (at_zero i l) (omega (arith, m.is p, on_le 8191 p));
    col_seen = λ i q l. absurd (omega arith);
    begin = omega (arith, m.is start, o.is start, ind_same start, on_le 8191 start);
    ups = λ p q hp hq. omega (arith, m.is p, on_all p hp, on_le (get_or up p 0) q, on_le 8191 q);
    downs = λ p q hp hq. omega (arith, on_all q hq, on_le (get_or down q 0) p, on_le rows_left p);
    full = λ q hq. omega (arith, on_all q hq, on_le ends q);
    count = omega (arith, sum_ones 13 (λ q. on 8191 q) (on_le 8191));
  }

-- nothing leads on
stuck : {up down rows cols : List ℕ} {ends start k front rows_left cols_left : ℕ} → Progress up down ends start rows cols k front rows_left cols_left
    → ((p q : ℕ) → p < 13 → q < 13 → has up p q + on cols_left q ≤ 1 + on rows_left p) → Stuck up down ends start
stuck {rows_left = rows_left} {cols_left = cols_left} t u = record { rows_left = rows_left; cols_left = cols_left; begin = t.begin; ups = u; downs = t.downs; full = t.full }

module _ {up down rows cols : List ℕ} {ends start k front rows_left cols_left g next : ℕ} (t : Progress up down ends start rows cols k front rows_left cols_left) (a : UnionOf up front g) (b : Meet g cols_left next) where
  pub progress_found : {h v : ℕ} → k < 13 → Meet ends next h → Some h v → (on ends v ≡ 1) × Trail up down rows cols start v k
  progress_found {h} {v} hk m o = (
    omega (arith, m.is v, o.is, on_le ends v),
    record {
      levels = t.levels;
      level = hk;
      below = o.below;
      via = subst (λ (n : ℕ). Via up n v) (sym t.last) (a.from v (omega (arith, m.is v, o.is, b.is v, on_le g v)));
      new = λ i l. omega (arith, t.col_seen i v l, m.is v, o.is, b.is v);
    },
  )

  -- no column is new
  pub progress_shut : next ≡ 0 → Stuck up down ends start
  progress_shut e =
      stuck t (λ p q hp hq. omega (arith, t.ups p q hp hq, a.all p q, b.is q, empty q, on_le front p, on_le cols_left q, on_le (get_or up p 0) q))
    where
      empty : (q : ℕ) → on next q ≡ 0
      empty q = ap (λ (n : ℕ). on n q) e ∙ on_zero q

-- every column is reached
pub progress_full : {up down rows cols : List ℕ} {ends start k front rows_left cols_left : ℕ} → Progress up down ends start rows cols k front rows_left cols_left → 13 ≤ k → Stuck up down ends start
progress_full {up} {cols_left = cols_left} t h = stuck t (λ p q hp hq. omega (arith, none q hq, on_le (get_or up p 0) q))
  where
    none : (q : ℕ) → q < 13 → on cols_left q ≡ 0
    none q hq = omega (arith, t.count, sum_term 13 (λ j. on cols_left j) q hq)

-- one level more
module _ {up down rows cols : List ℕ} {ends start k front rows_left cols_left g next h cols_left' g' front' rows_left' : ℕ} (t : Progress up down ends start rows cols k front rows_left cols_left) (hk : k < 13)
    (a : UnionOf up front g) (b : Meet g cols_left next) (m : Meet ends next h) (hz : h ≡ 0) (cz : next ≡ 0 → ⊥) (d : Minus cols_left next cols_left')
    (a' : UnionOf down next g') (b' : Meet g' rows_left front') (d' : Minus rows_left front' rows_left') where
  abbrev rows⁺ : List ℕ
  rows⁺ = set rows (k + 1) front'

  abbrev cols⁺ : List ℕ
  cols⁺ = set cols k next

  row_old : (i : ℕ) → i ≤ k → get_or rows⁺ i 0 ≡ get_or rows i 0
  row_old i l = get_or-set_other rows (k + 1) i front' 0 (λ e. omega arith)

  row_new : get_or rows⁺ (k + 1) 0 ≡ front'
  row_new = get_or-set_same rows (k + 1) front' 0 (omega (arith, t.rows_len))

  col_old : (i : ℕ) → i < k → get_or cols⁺ i 0 ≡ get_or cols i 0
  col_old i l = get_or-set_other cols k i next 0 (λ e. omega arith)

  col_new : get_or cols⁺ k 0 ≡ next
  col_new = get_or-set_same cols k next 0 (omega (arith, t.cols_len))

  -- a level up to the new one
  row_case : (P : ℕ → ℕ → Type 0) → ((i : ℕ) → i ≤ k → P i (get_or rows i 0)) → P (k + 1) front' → (i : ℕ) → i ≤ k + 1 → P i (get_or rows⁺ i 0)
  row_case P old new i l = ⊎_elim
      (λ e. subst (λ (n : ℕ). P n (get_or rows⁺ n 0)) (sym e) (subst (P (k + 1)) (sym row_new) new))
      (λ n. let x : i ≤ k = omega arith in subst (P i) (sym (row_old i x)) (old i x))
      (eq-or-lt_of_le l)

  col_case : (P : ℕ → ℕ → Type 0) → ((i : ℕ) → i < k → P i (get_or cols i 0)) → P k next → (i : ℕ) → i < k + 1 → P i (get_or cols⁺ i 0)
  col_case P old new i l = ⊎_elim
      (λ e. subst (λ (n : ℕ). P n (get_or cols⁺ n 0)) (sym e) (subst (P k) (sym col_new) new))
      (λ n. subst (P i) (sym (col_old i n)) (old i n))
      (eq-or-lt_of_le (let x : i ≤ k = omega arith in x))

  next_small : next < 8192
  next_small = omega (arith, b.small, t.cols_small)

  front_small' : front' < 8192
  front_small' = omega (arith, b'.small, t.rows_small)

  levels⁺ : Levels up down rows⁺ cols⁺ start (k + 1)
  levels⁺ = record {
    first = λ p. ap (λ (n : ℕ). on n p) (row_old 0 (omega arith)) ∙ t.levels.first p;
    row_small = row_case (λ i x. x < 8192) t.levels.row_small front_small';
    col_small = col_case (λ i x. x < 8192) t.levels.col_small next_small;
    col_from = λ i q l. col_case (λ i x. on x q ≡ 1 → Via up (get_or rows⁺ i 0) q)
        (λ j n e. subst (λ (x : ℕ). Via up x q) (sym (row_old j (omega arith))) (t.levels.col_from j q n e))
        (λ e. subst (λ (x : ℕ). Via up x q) (sym (row_old k (omega arith) ∙ t.last)) (a.from q (omega (arith, b.is q, on_le g q))))
        i l;
    row_from = λ i p l e. ⊎_elim
        (λ z. subst (λ (x : ℕ). Via down (get_or cols⁺ x 0) p) (sym z) (subst (λ (x : ℕ). Via down x p) (sym col_new)
        (a'.from p (let y : has rows⁺ (k + 1) p ≡ 1 = subst (λ (x : ℕ). has rows⁺ (x + 1) p ≡ 1) z e in
        let w : on front' p ≡ 1 = ap (λ (x : ℕ). on x p) (sym row_new) ∙ y in omega (arith, b'.is p, on_le g' p)))))
        (λ n. subst (λ (x : ℕ). Via down x p) (sym (col_old i n)) (t.levels.row_from i p n (ap (λ (x : ℕ). on x p) (sym (row_old (i + 1) (omega arith))) ∙ e)))
        (eq-or-lt_of_le (let x : i ≤ k = omega arith in x));
    row_apart = λ i j p l n. rw (row_old i (omega arith))
        (row_case (λ j x. i < j → has rows i p + on x p ≤ 1)
        (λ j le lt. t.levels.row_apart i j p lt le)
        (λ lt. omega (arith, t.row_seen i p (omega arith), b'.is p)) j n l);
    col_apart = λ i j q l n. rw (col_old i (omega arith))
        (col_case (λ j x. i < j → has cols i q + on x q ≤ 1)
        (λ j le lt. t.levels.col_apart i j q lt le)
        (λ lt. omega (arith, t.col_seen i q lt, b.is q)) j n l);
  }

  -- no column of ends is among the new ones
  none : (q : ℕ) → min (on ends q) (on next q) ≡ 0
  none q = sym (m.is q) ∙ ap (λ (n : ℕ). on n q) hz ∙ on_zero q

  fewer : sum_to 13 (λ q. on cols_left' q) < sum_to 13 (λ q. on cols_left q)
  fewer =
      let o = nonempty next (let x : 0 < next = pos next cz in x) next_small in
      sum_lt 13 (λ q. on cols_left' q) (λ q. on cols_left q) o.0 o.1.below (omega (arith, d.is o.0, o.1.is)) (λ q l. omega (arith, d.is q))
    where
      pos : (n : ℕ) → (n ≡ 0 → ⊥) → 0 < n
      pos zero z = absurd (z refl)
      pos (suc n) z = omega arith

  pub progress_step : Progress up down ends start rows⁺ cols⁺ (k + 1) front' rows_left' cols_left'
  progress_step = record {
    levels = levels⁺;
    rows_len = length-set rows (k + 1) front' ∙ t.rows_len;
    cols_len = length-set cols k next ∙ t.cols_len;
    last = row_new;
    front_small = front_small';
    rows_small = d'.small;
    cols_small = d.small;
    row_seen = λ i p. row_case (λ i x. on x p + on rows_left' p ≤ 1) (λ i l. omega (arith, t.row_seen i p l, d'.is p)) (omega (arith, d'.is p, on_le rows_left p)) i;
    col_seen = λ i q. col_case (λ i x. on x q + on cols_left' q ≤ 1) (λ i l. omega (arith, t.col_seen i q l, d.is q)) (omega (arith, d.is q, on_le cols_left q)) i;
    begin = omega (arith, t.begin, d'.is start);
    ups = λ p q hp hq. omega (arith, t.ups p q hp hq, a.all p q, b.is q, d.is q, d'.is p, on_le front p, on_le cols_left q, on_le g q);
    downs = λ p q hp hq. omega (arith, t.downs p q hp hq, a'.all q p, b'.is p, d.is q, d'.is p, on_le next q, on_le rows_left p, on_le cols_left q, on_le g' p);
    full = λ q hq. omega (arith, t.full q hq, none q, d.is q, on_le cols_left q, on_le ends q);
    count = omega (arith, t.count, fewer);
  }
