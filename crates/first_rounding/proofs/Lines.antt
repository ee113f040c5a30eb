-- Lines of twelve entries and their total, in whole parts and remainders. Assumes nothing.
use mathlib.Core.Path.{◌≡◌, sym, ap, ◌∙◌}
use Prim.Native.Nat.{ℕ, ◌+◌, ◌-◌, ◌*◌, ◌%◌, ◌≤◌, ◌<◌}
use native.Mathlib.Nat.{div-add-mod, mod-lt, mul-add, mul-one, le_of_mul-le-mul_left, lt_of_mul-lt-mul_left}
use native.Mathlib.Omega.{arith}
use Rattle.base.specs.Lists.{sum_to}
use Rattle.table.specs.Whole.{down, gap}
use Rattle.base.proofs.Sums.{sum_ext, sum_le, sum_add, sum_sub, sum_mul, sum_ones}
use Rattle.table.proofs.Roundings.{gap_le, rest_le}

le_of_lt_add_one : {x y : ℕ} → x < y + 1 → x ≤ y
le_of_lt_add_one h = omega arith

module _ (w : ℕ) (wp : 0 < w) where
  -- what is left to the next whole, 0 of a whole entry
  pub slack : ℕ → ℕ
  slack e = w * gap w e - e % w

  pub slack_is : (e : ℕ) → slack e + e % w ≡ w * gap w e
  unfolding slack
  slack_is e = omega (arith, rest_le w e wp)

  pub slack_le : (e : ℕ) → slack e ≤ w * gap w e
  slack_le e = omega (arith, slack_is e)

  module _ (a : ℕ → ℕ) (t : ℕ) (is : t ≡ sum_to 12 a) where
    abbrev pub wholes : ℕ
    wholes = sum_to 12 (λ k. down w (a k))

    abbrev pub rests : ℕ
    rests = sum_to 12 (λ k. a k % w)

    abbrev pub gaps : ℕ
    gaps = sum_to 12 (λ k. gap w (a k))

    -- the total, in whole parts and remainders
    parts : w * down w t + t % w ≡ w * wholes + rests
    parts =
        div-add-mod t w
        ∙ is
        ∙ sum_ext 12 a (λ k. w * down w (a k) + a k % w) (λ k h. sym (div-add-mod (a k) w))
        ∙ sum_add 12 (λ k. w * down w (a k)) (λ k. a k % w)
        ∙ ap (λ (n : ℕ). n + sum_to 12 (λ k. a k % w)) (sum_mul 12 w (λ k. down w (a k)))

    rests_le : rests ≤ w * gaps
    rests_le = rw (← sum_mul 12 w (λ k. gap w (a k))) (sum_le 12 (λ k. a k % w) (λ k. w * gap w (a k)) (λ k h. rest_le w (a k) wp))

    pub gaps_le : gaps ≤ 12
    gaps_le = sum_ones 12 (λ k. gap w (a k)) (λ k. gap_le w (a k))

    -- the whole parts of the entries are at most that of the total, which is at most 12 more
    pub low : wholes ≤ down w t
    low = le_of_lt_add_one (lt_of_mul-lt-mul_left w {m = wholes} {n = down w t + 1} (omega (arith, parts, mod-lt t wp, mul-add w (down w t) 1, mul-one w)))

    pub high : down w t ≤ wholes + gaps
    high = le_of_mul-le-mul_left {k = w} (omega (arith, parts, rests_le, mul-add w wholes gaps)) wp

    -- a line of cells, closed by its total's slack, has w times its need
    pub cells_need : (n : ℕ) → n + wholes ≡ down w t + gap w t → rests + slack t ≡ w * n
    cells_need n e =
        let scaled : w * (n + wholes) ≡ w * (down w t + gap w t) = ap (λ (x : ℕ). w * x) e in
        omega (arith, scaled, mul-add w n wholes, mul-add w (down w t) (gap w t), parts, slack_is t)

    slacks : sum_to 12 (λ k. slack (a k)) + rests ≡ w * gaps
    slacks =
        sym (sum_add 12 (λ k. slack (a k)) (λ k. a k % w))
        ∙ sum_ext 12 (λ k. slack (a k) + a k % w) (λ k. w * gap w (a k)) (λ k h. slack_is (a k))
        ∙ sum_mul 12 w (λ k. gap w (a k))

    -- a line of totals, closed by the grand total, likewise
    pub totals_need : (n : ℕ) → n + down w t ≡ wholes + gaps → sum_to 12 (λ k. slack (a k)) + t % w ≡ w * n
    totals_need n e =
        let scaled : w * (n + down w t) ≡ w * (wholes + gaps) = ap (λ (x : ℕ). w * x) e in
        omega (arith, scaled, mul-add w n (down w t), mul-add w wholes gaps, parts, slacks)

-- lines of counts and lines of bits: a cell's count is its whole part and its bit, that of a row or column total lacks its bit
module _ (f m : ℕ → ℕ) (low : (k : ℕ) → k < 12 → f k ≤ m k) (t : ℕ) (is : t ≡ sum_to 12 m) where
  pub cells_bits : (top n : ℕ) → t ≤ top → n + sum_to 12 f ≡ top → sum_to 12 (λ k. m k - f k) + (top - t) ≡ n
  cells_bits top n h e = omega (arith, sum_sub 12 f m low)

module _ (u m : ℕ → ℕ) (high : (k : ℕ) → k < 12 → m k ≤ u k) (t : ℕ) (is : t ≡ sum_to 12 m) where
  pub totals_bits : (ft n : ℕ) → ft ≤ t → n + ft ≡ sum_to 12 u → sum_to 12 (λ k. u k - m k) + (t - ft) ≡ n
  totals_bits ft n h e = omega (arith, sum_sub 12 m u high)

module _ (f b : ℕ → ℕ) where
  pub cells_counts : (top n bt : ℕ) → bt ≤ top → sum_to 12 b + bt ≡ n → n + sum_to 12 f ≡ top → top - bt ≡ sum_to 12 (λ k. f k + b k)
  cells_counts top n bt h e g = omega (arith, sum_add 12 f b)

  pub totals_counts : (ft n bt : ℕ) → ((k : ℕ) → k < 12 → b k ≤ f k) → sum_to 12 b + bt ≡ n → n + ft ≡ sum_to 12 f → ft + bt ≡ sum_to 12 (λ k. f k - b k)
  totals_counts ft n bt h e g = omega (arith, sum_sub 12 b f h)
