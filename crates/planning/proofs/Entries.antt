-- One entry through one round: its limit, what is left of it, and Ernst's bounds (3.4). Assumes nothing.
use mathlib.Core.Path.{◌≡◌, refl, ap, ◌∙◌}
use mathlib.Core.Logic.{◌⊎◌, inl, inr}
use mathlib.Core.Bool.{true}
use Prim.Native.Nat.{ℕ, ◌+◌, ◌-◌, ◌*◌, ◌/◌, ◌%◌, ◌≤◌, ◌<◌}
use native.Mathlib.Decide.{ℕ_discrete}
use native.Mathlib.Nat.{div-add-mod', mod-lt, add-mul, mul-add, mul_comm, one-mul, mul-one, mul-le-mul_right, mul-mod_left, le_of_mul-le-mul_right, lt_of_mul-lt-mul_right, le-div_iff_mul-le}
use native.Mathlib.Numerals.{add-one-le}
use native.Mathlib.Omega.{arith}
use borrow.Author.Tests.{eq-eqb, ne_eqb}
use Rattle.table.specs.Whole.{gap, rounds_to}
use Rattle.table.proofs.Roundings.{gap_le, gap_whole, gap_part, rounds_low, rounds_high}
use Rattle.planning.specs.Rounds.{limit_of}

module _ (w : ℕ) (wp : 0 < w) (e n : ℕ) (h : rounds_to w e n ≡ true) where
  parts : e / w * w + e % w ≡ e
  parts = div-add-mod' e w

  next : (e / w + 1) * w ≡ e / w * w + w
  next = add-mul (e / w) 1 w ∙ ap (λ (x : ℕ). e / w * w + x) (one-mul w)

  -- rounded down, the limit is what is left to the next whole; rounded up, the remainder
  pub data Side : Type 0 where
    below : n ≡ e / w → limit_of w e n + e % w ≡ w → Side
    above : n ≡ e / w + 1 → 0 < e % w → limit_of w e n ≡ e % w → Side

  pub side : Side
  unfolding limit_of
  side = go (ℕ_discrete n (e / w))
    where
      go : Dec (n ≡ e / w) → Side
      go (yes q) =
          let l : limit_of w e n ≡ (e / w + 1) * w - e = rw q (simp (eq-eqb (e / w) (e / w) refl)) in
          below q (omega (arith, parts, next, mod-lt e wp))
      go (no q) =
          let m : n ≡ e / w + 1 = omega (arith, rounds_low w e n h, rounds_high w e n h, gap_le w e) in
          let z : 0 < e % w = positive (ℕ_discrete (e % w) 0) in
          let l : limit_of w e n ≡ e - (n - 1) * w = simp (ne_eqb n (e / w) q) in
          let k : (n - 1) * w ≡ e / w * w = ap (λ (x : ℕ). x * w) (omega arith) in
          above m z (omega (arith, parts))
        where
          positive : Dec (e % w ≡ 0) → 0 < e % w
          positive (yes z) = absurd (q (omega (arith, rounds_low w e n h, rounds_high w e n h, gap_whole w e z)))
          positive (no z) = omega arith

  -- a limit is from 1 to w
  pub limit_low : 0 < limit_of w e n
  limit_low = go side
    where
      go : Side → 0 < limit_of w e n
      go (below q l) = omega (arith, mod-lt e wp)
      go (above q z l) = omega arith

  pub limit_high : limit_of w e n ≤ w
  limit_high = go side
    where
      go : Side → limit_of w e n ≤ w
      go (below q l) = omega arith
      go (above q z l) = omega (arith, mod-lt e wp)

  -- what a weight y up to the limit leaves, over the rest v of w
  pub record Left (y v : ℕ) : Type 0 where
    pub over : ℕ
    pub fits : over ≤ v
    pub is : y * n + (e / w * v + over) ≡ e
    pub stays : e % w ≡ 0 → over ≡ 0
    pub ends : y ≡ limit_of w e n → (over ≡ 0) ⊎ (over ≡ v)

  module _ (y v : ℕ) (split : w ≡ y + v) (most : y ≤ limit_of w e n) where
    spread : e / w * w ≡ y * (e / w) + e / w * v
    spread = ap (λ (x : ℕ). e / w * x) split ∙ mul-add (e / w) y v ∙ ap (λ (x : ℕ). x + e / w * v) (mul_comm (e / w) y)

    pub left : Left y v
    left = go side
      where
        go : Side → Left y v
        go (below q l) =
            let k : y * n ≡ y * (e / w) = ap (λ (x : ℕ). y * x) q in
            record {
              over = e % w;
              fits = omega arith;
              is = omega (arith, parts, spread);
              stays = λ z. z;
              ends = λ z. inr (omega arith);
            }
        go (above q p l) =
            let k : y * n ≡ y * (e / w) + y = ap (λ (x : ℕ). y * x) q ∙ mul-add y (e / w) 1 ∙ ap (λ (x : ℕ). y * (e / w) + x) (mul-one y) in
            record {
              over = e % w - y;
              fits = omega (arith, mod-lt e wp);
              is = omega (arith, parts, spread);
              stays = λ z. omega arith;
              ends = λ z. inl (omega arith);
            }

  -- whole stays whole, and the entry that sets the weight becomes so
  module _ {y v : ℕ} (vp : 0 < v) (l : Left y v) {e' : ℕ} (is : e' ≡ e / w * v + l.over) where
    whole_at : (l.over ≡ 0) ⊎ (l.over ≡ v) → gap v e' ≡ 0
    whole_at (inl z) = gap_whole v e' (ap (λ (x : ℕ). x % v) (is ∙ omega arith) ∙ mul-mod_left (e / w) v)
    whole_at (inr z) =
        gap_whole v e'
        (ap (λ (x : ℕ). x % v) (is ∙ omega (arith, add-mul (e / w) 1 v, one-mul v)) ∙ mul-mod_left (e / w + 1) v)

    pub gap_falls : gap v e' ≤ gap w e
    gap_falls = go (ℕ_discrete (e % w) 0)
      where
        go : Dec (e % w ≡ 0) → gap v e' ≤ gap w e
        go (yes z) = omega (arith, whole_at (inl (l.stays z)))
        go (no z) = omega (arith, gap_part w e z, gap_le v e')

    pub gap_drops : y ≡ limit_of w e n → w ≡ y + v → gap v e' < gap w e
    gap_drops a split = omega (arith, whole_at (l.ends a), not_whole_lem side)
      where
        not_whole_lem : Side → gap w e ≡ 1
        not_whole_lem (below q m) = gap_part w e (λ z. omega arith)
        not_whole_lem (above q z m) = gap_part w e (λ k. omega arith)

  -- Ernst's bounds: between lo and hi times the rest, before and after; and the count is between lo and hi
  module _ (lo hi : ℕ) (low : lo * w ≤ e) (high : e ≤ hi * w) where
    lo_le : lo ≤ e / w
    lo_le = (le-div_iff_mul-le wp).1 low

    hi_ge : e / w ≤ hi
    hi_ge = le_of_mul-le-mul_right {k = w} (omega (arith, parts)) wp

    hi_gt : 0 < e % w → e / w + 1 ≤ hi
    hi_gt z = add-one-le (lt_of_mul-lt-mul_right w {m = e / w} {n = hi} (omega (arith, parts)))

    pub count_low : lo ≤ n
    count_low = omega (arith, lo_le, rounds_low w e n h)

    pub count_high : n ≤ hi
    count_high = go side
      where
        go : Side → n ≤ hi
        go (below q m) = omega (arith, hi_ge)
        go (above q z m) = omega (arith, hi_gt z)

    module _ {y v : ℕ} (l : Left y v) where
      pub next_low : lo * v ≤ e / w * v + l.over
      next_low = omega (arith, mul-le-mul_right v lo_le)

      pub next_high : e / w * v + l.over ≤ hi * v
      next_high = go (ℕ_discrete (e % w) 0)
        where
          go : Dec (e % w ≡ 0) → e / w * v + l.over ≤ hi * v
          go (yes z) = omega (arith, l.stays z, mul-le-mul_right v hi_ge)
          go (no z) = omega (arith, l.fits, add-mul (e / w) 1 v, one-mul v, mul-le-mul_right v (hi_gt (omega arith)))
