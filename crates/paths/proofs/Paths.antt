-- Laws on the flip along a path. Assumes nothing.
use mathlib.Core.Path.{◌≡◌, refl, sym, ap, ◌∙◌, subst}
use mathlib.Core.List.{List}
use Prim.Native.Nat.{ℕ, ◌+◌, ◌-◌, ◌≤◌, ◌<◌}
use native.Mathlib.Decide.{ℕ_discrete}
use native.Mathlib.Omega.{arith}
use lib.ListN.{length, get_or, set, length-set}
use lib.Seq.{get_or-set_same, get_or-set_other}
use Rattle.base.specs.Lists.{sum_to}
use Rattle.sets.specs.Clauses.{ind, has, With, Without, Via, Picked}
use Rattle.paths.specs.Clauses.{Levels, Trail, same_place, FlipReady, Flipped, row_ones, col_ones, NotBoth, OneMore}
use Rattle.base.proofs.Sums.{sum_ext, sum_add, sum_zero}
use Rattle.sets.proofs.Indicators.{ind_same, ind_other, ind_le, ind_eq, sum_ind}

pub place_in_row : (p y q : ℕ) → same_place p p y q ≡ ind y q
unfolding same_place
place_in_row p y q = omega (arith, ind_same p, ind_le y q)

pub place_other_row : (x p y q : ℕ) → (x ≡ p → ⊥) → same_place x p y q ≡ 0
unfolding same_place
place_other_row x p y q n = omega (arith, ind_other x p n)

pub place_other_col : (x p y q : ℕ) → (y ≡ q → ⊥) → same_place x p y q ≡ 0
unfolding same_place
place_other_col x p y q n = omega (arith, ind_other y q n)

pub place_swap : (x p y q : ℕ) → same_place x p y q ≡ same_place y q x p
unfolding same_place
place_swap x p y q = omega arith

pub sum_place : (x p q : ℕ) → q < 13 → sum_to 13 (λ y. same_place x p y q) ≡ ind x p
sum_place x p q h = go (ℕ_discrete x p)
  where
    go : Dec (x ≡ p) → sum_to 13 (λ y. same_place x p y q) ≡ ind x p
    go (yes e) = rw (e, ind_same p) (sum_ext 13 (λ y. same_place p p y q) (λ y. ind y q) (λ y l. place_in_row p y q) ∙ sum_ind 13 q h)
    go (no n) = rw (ind_other x p n) (sum_ext 13 (λ y. same_place x p y q) (λ y. 0) (λ y l. place_other_row x p y q n) ∙ sum_zero 13)

-- a store that takes a place out, and one that puts it in
module _ (a : List ℕ) (p q r : ℕ) (len : length a ≡ 13) (hp : p < 13) where
  pub taken : Without (get_or a p 0) q r → (x y : ℕ) → has (set a p r) x y + same_place x p y q ≡ has a x y
  taken w x y = go (ℕ_discrete x p)
    where
      go : Dec (x ≡ p) → has (set a p r) x y + same_place x p y q ≡ has a x y
      go (yes e) = rw (e, get_or-set_same a p r 0 (omega arith), place_in_row p y q) (w.is y)
      go (no n) = rw (get_or-set_other a p x r 0 n, place_other_row x p y q n) (omega arith)

  pub put : With (get_or a p 0) q r → (x y : ℕ) → has (set a p r) x y ≡ has a x y + same_place x p y q
  put w x y = go (ℕ_discrete x p)
    where
      go : Dec (x ≡ p) → has (set a p r) x y ≡ has a x y + same_place x p y q
      go (yes e) = rw (e, get_or-set_same a p r 0 (omega arith), place_in_row p y q) (w.is y)
      go (no n) = rw (get_or-set_other a p x r 0 n, place_other_row x p y q n) (omega arith)

pub flipped : (a b : List ℕ) (p q r r' : ℕ) → length a ≡ 13 → length b ≡ 13 → p < 13 → q < 13 → Without (get_or a p 0) q r → With (get_or b q 0) p r'
    → Flipped a b (set a p r) (set b q r') p q
flipped a b p q r r' la lb hp hq w v = record {
  a_len = length-set a p r ∙ la;
  b_len = length-set b q r' ∙ lb;
  a_is = taken a p q r la hp w;
  b_is = λ x y. put b q p r' lb hq v y x ∙ ap (λ (n : ℕ). has b y x + n) (place_swap y q x p);
}

-- one more at p and q, in the sums of the lines
module _ (d d' : List ℕ) (p q : ℕ) (hp : p < 13) (hq : q < 13) (is : (x y : ℕ) → has d' y x ≡ has d y x + same_place x p y q) where
  pub gain_row : (x : ℕ) → row_ones d' x ≡ row_ones d x + ind x p
  unfolding row_ones
  gain_row x =
      sum_ext 13 (λ y. has d' y x) (λ y. has d y x + same_place x p y q) (λ y l. is x y) ∙ sum_add 13 (λ y. has d y x) (λ y. same_place x p y q)
      ∙ ap (λ (n : ℕ). sum_to 13 (λ y. has d y x) + n) (sum_place x p q hq)

  pub gain_col : (y : ℕ) → col_ones d' y ≡ col_ones d y + ind y q
  unfolding col_ones
  gain_col y =
      sum_ext 13 (λ x. has d' y x) (λ x. has d y x + same_place y q x p) (λ x l. is x y ∙ ap (λ (n : ℕ). has d y x + n) (place_swap x p y q))
      ∙ sum_add 13 (λ x. has d y x) (λ x. same_place y q x p)
      ∙ ap (λ (n : ℕ). sum_to 13 (λ x. has d y x) + n) (sum_place y q p hp)

-- on the way back at level i: the columns of the levels before are as they were, and what is free stays so
pub record Way (up₀ down₀ rows cols : List ℕ) (start last : ℕ) (up down : List ℕ) (i : ℕ) : Type 0 where
  pub apart : NotBoth up₀ down₀
  pub levels : Levels up₀ down₀ rows cols start last
  pub small : last < 13
  pub at_most : i ≤ last
  pub up_len : length up ≡ 13
  pub down_len : length down ≡ 13
  pub low_col : (j x y : ℕ) → j < i → has cols j y ≡ 1 → has down y x ≡ has down₀ y x
  pub free : (x y : ℕ) → has up x y + has down y x ≡ has up₀ x y + has down₀ y x

-- at column q of level i: the rows up to level i are as they were
pub record AtCol (up₀ down₀ rows cols : List ℕ) (start end last : ℕ) (up down : List ℕ) (q i : ℕ) : Type 0 where
  pub way : Way up₀ down₀ rows cols start last up down i
  pub below : q < 13
  pub via : Via up₀ (get_or rows i 0) q
  pub new : (j : ℕ) → j < i → has cols j q ≡ 0
  pub low_row : (j x y : ℕ) → j ≤ i → has rows j x ≡ 1 → has up x y ≡ has up₀ x y
  pub in_row : (x : ℕ) → row_ones down x ≡ row_ones down₀ x
  pub in_col : (y : ℕ) → col_ones down y + ind y q ≡ col_ones down₀ y + ind y end

-- at row p of level i: the rows before level i are as they were
pub record AtRow (up₀ down₀ rows cols : List ℕ) (start end last : ℕ) (up down : List ℕ) (p i : ℕ) : Type 0 where
  pub way : Way up₀ down₀ rows cols start last up down i
  pub below : p < 13
  pub member : has rows i p ≡ 1
  pub low_row : (j x y : ℕ) → j < i → has rows j x ≡ 1 → has up x y ≡ has up₀ x y
  pub in_row : (x : ℕ) → row_ones down x ≡ row_ones down₀ x + ind x p
  pub in_col : (y : ℕ) → col_ones down y ≡ col_ones down₀ y + ind y end

pub at_start : {up down rows cols : List ℕ} {start end last : ℕ} → NotBoth up down → Trail up down rows cols start end last → AtCol up down rows cols start end last up down end last
at_start a r = record {
  way = record {
    apart = a;
    levels = r.levels;
    small = r.level;
    at_most = omega arith;
    up_len = a.up_len;
    down_len = a.down_len;
    low_col = λ j x y l e. refl;
    free = λ x y. refl;
  };
  below = r.below;
  via = r.via;
  new = r.new;
  low_row = λ j x y l e. refl;
  in_row = λ x. refl;
  in_col = λ y. refl;
}

-- the same way through other sets
via_as : {a b : List ℕ} {x q : ℕ} (v : Via a x q) → has b v.p q ≡ has a v.p q → Via b x q
via_as v e = record { p = v.p; picked = record { below = v.picked.below; member = v.picked.member; linked = e ∙ v.picked.linked } }

-- two members of different levels differ
differs : (l : List ℕ) (i j x y : ℕ) → has l i x + has l j x ≤ 1 → has l i x ≡ 1 → has l j y ≡ 1 → x ≡ y → ⊥
differs l i j x y h a b e = let c : has l j x ≡ 1 = subst (λ (n : ℕ). has l j n ≡ 1) (sym e) b in omega arith

module _ {up₀ down₀ rows cols : List ℕ} {start end last : ℕ} {up down : List ℕ} {q i : ℕ} (a : AtCol up₀ down₀ rows cols start end last up down q i) where
  -- what pick and flip ask
  pub col_via : Via up (get_or rows i 0) q
  col_via = via_as a.via (a.low_row i a.via.p q (omega arith) a.via.picked.member)

  pub col_free : {p : ℕ} → Picked up (get_or rows i 0) q p → has down q p ≡ 0
  col_free {p} c = omega (arith, a.way.free p q, a.way.apart.one p q c.below a.below, c.linked)

  pub raised : {p : ℕ} {up' down' : List ℕ} → Picked up (get_or rows i 0) q p → Flipped up down up' down' p q → AtRow up₀ down₀ rows cols start end last up' down' p i
  raised {p} {up'} {down'} c m = record {
    way = record {
      apart = a.way.apart;
      levels = a.way.levels;
      small = a.way.small;
      at_most = a.way.at_most;
      up_len = m.a_len;
      down_len = m.b_len;
      low_col = λ j x y l e. omega (arith, m.b_is x y, place_other_col x p y q (λ z. let w : has cols j q ≡ 1 = subst (λ (n : ℕ). has cols j n ≡ 1) z e in omega (arith, a.new j l)), a.way.low_col j x y l e);
      free = λ x y. omega (arith, m.a_is x y, m.b_is x y, a.way.free x y);
    };
    below = c.below;
    member = c.member;
    low_row = λ j x y l e. omega (arith, m.a_is x y, place_other_row x p y q (differs rows j i x p (a.way.levels.row_apart j i x l a.way.at_most) e c.member), a.low_row j x y (omega arith) e);
    in_row = λ x. omega (arith, gain_row down down' p q c.below a.below m.b_is x, a.in_row x);
    in_col = λ y. omega (arith, gain_col down down' p q c.below a.below m.b_is y, a.in_col y);
  }

module _ {up₀ down₀ rows cols : List ℕ} {start end last : ℕ} {up down : List ℕ} {p i : ℕ} (a : AtRow up₀ down₀ rows cols start end last up down p i) where
  module _ (pos : 0 < i) where
    pub lowered : {q : ℕ} {up' down' : List ℕ} → Picked down (get_or cols (i - 1) 0) p q → Flipped down up down' up' q p → AtCol up₀ down₀ rows cols start end last up' down' q (i - 1)
    lowered {q} {up'} {down'} c m = record {
      way = record {
        apart = a.way.apart;
        levels = a.way.levels;
        small = a.way.small;
        at_most = omega (arith, a.way.at_most);
        up_len = m.b_len;
        down_len = m.a_len;
        low_col = λ j x y l e. omega (arith, m.a_is y x, place_other_row y q x p (differs cols j (i - 1) y q (a.way.levels.col_apart j (i - 1) y l (omega (arith, a.way.at_most))) e c.member), a.way.low_col j x y (omega arith) e);
        free = λ x y. omega (arith, m.a_is y x, m.b_is y x, a.way.free x y);
      };
      below = c.below;
      via = a.way.levels.col_from (i - 1) q (omega (arith, a.way.at_most)) c.member;
      new = λ j l. omega (arith, a.way.levels.col_apart j (i - 1) q l (omega (arith, a.way.at_most)), c.member);
      low_row = λ j x y l e. omega (arith, m.b_is y x, place_other_col y q x p (differs rows j i x p (a.way.levels.row_apart j i x (omega arith) a.way.at_most) e a.member), a.low_row j x y (omega arith) e);
      in_row = λ x. omega (arith, gain_row down' down p q a.below c.below is x, a.in_row x);
      in_col = λ y. omega (arith, gain_col down' down p q a.below c.below is y, a.in_col y);
    }
      where
        is : (x y : ℕ) → has down y x ≡ has down' y x + same_place x p y q
        is x y = omega (arith, m.a_is y x, place_swap y q x p)

-- one level back
pub level_back : {up₀ down₀ rows cols : List ℕ} {start end last : ℕ} {up down up' down' up″ down″ : List ℕ} {p q q' i : ℕ} → AtCol up₀ down₀ rows cols start end last up down q i → 0 < i
    → Picked up (get_or rows (i - 1 + 1) 0) q p → Flipped up down up' down' p q → Picked down' (get_or cols (i - 1) 0) p q' → Flipped down' up' down″ up″ q' p
    → AtCol up₀ down₀ rows cols start end last up″ down″ q' (i - 1)
level_back {rows = rows} {up = up} {p = p} {q = q} {i = i} a pos c m c' m' =
    let e : i - 1 + 1 ≡ i = omega arith in
    lowered (raised a (subst (λ (n : ℕ). Picked up (get_or rows n 0) q p) e c) m) pos c' m'

-- the one row of level 0 is the start
module _ {up₀ down₀ rows cols : List ℕ} {start end last : ℕ} {up down : List ℕ} {q i : ℕ} (a : AtCol up₀ down₀ rows cols start end last up down q i) (z : i ≤ 0) where
  from_start : Picked up (get_or rows i 0) q start
  from_start =
      let v = col_via a in
      let e : i ≡ 0 = omega arith in
      subst (λ (n : ℕ). Picked up (get_or rows i 0) q n) (ind_eq v.p start (sym (a.way.levels.first v.p) ∙ subst (λ (n : ℕ). has rows n v.p ≡ 1) e v.picked.member)) v.picked

  pub last_ready : FlipReady up down start q
  last_ready = record {
    a_len = a.way.up_len;
    b_len = a.way.down_len;
    p_inside = from_start.below;
    q_inside = a.below;
    in_a = from_start.linked;
    not_in_b = col_free a from_start;
  }

  pub arrived : {up' down' : List ℕ} → Flipped up down up' down' start q → OneMore up₀ down₀ up' down' start end
  arrived m =
      let r = raised a from_start m in
      record { up_len = r.way.up_len; down_len = r.way.down_len; free = r.way.free; in_row = r.in_row; in_col = r.in_col }
