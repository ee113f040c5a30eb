-- What quotient and rest are, below zero and from zero on. Assumes nothing.
use mathlib.Core.Path.{◌≡◌, refl, sym, ap, ◌∙◌}
use Prim.Native.Nat.{ℕ, suc, ◌+◌, ◌-◌, ◌*◌, ◌/◌, ◌%◌, ◌<◌}
use native.Mathlib.Nat.{div-add-mod', mod-lt, suc-mul}
use native.Mathlib.Omega.{arith}
use lib.Arith.{digits_div, digits_mod}
use lib.IntN.{ℤ, pos, negsuc, neg_ℤ, sub_ℕ, ◌+ℤ◌, ◌*ℤ◌, +ℤ_assoc}
use Rattle.base.proofs.Differences.{sub_below, sum_times}
use Rattle.division.specs.Division.{down, rest, Parts}

-- a number less another from 1 on, as a sum
pub minus : (n f : ℕ) → 0 < n → neg_ℤ (pos n) +ℤ pos f ≡ sub_ℕ f n
minus n f h = let e : n ≡ suc (n - 1) = omega arith in rw e refl

pub parts_of : (w : ℕ) (z : ℤ) → 0 < w → Parts w z (down w z) (rest w z)
parts_of w (pos m) h = record { sum = ap pos (div-add-mod' m w); small = mod-lt m h }
parts_of w (negsuc m) h = record {
  sum = minus (suc (m / w) * w) (w - suc (m % w)) (omega (arith, more))
      ∙ sub_below (w - suc (m % w)) (suc (m / w) * w) (omega (arith, more, mod-lt m h))
      ∙ ap negsuc (omega (arith, more, mod-lt m h, div-add-mod' m w));
  small = omega (arith, mod-lt m h);
}
  where
    more : suc (m / w) * w ≡ m / w * w + w
    more = suc-mul (m / w) w

-- no others are quotient and rest
at_parts : (w : ℕ) (q : ℤ) (f : ℕ) → f < w → (down w (q *ℤ pos w +ℤ pos f) ≡ q) × (rest w (q *ℤ pos w +ℤ pos f) ≡ f)
at_parts w (pos x) f h = (ap pos (digits_div x h), digits_mod x h)
at_parts w (negsuc x) f h =
    let more : suc x * w ≡ x * w + w = suc-mul x w in
    let below : f < suc x * w = omega arith in
    let left : w - suc f < w = omega arith in
    let is : negsuc x *ℤ pos w +ℤ pos f ≡ negsuc (x * w + (w - suc f)) =
    minus (suc x * w) f (omega arith) ∙ sub_below f (suc x * w) below ∙ ap negsuc (omega arith) in
    (ap (down w) is ∙ ap negsuc (digits_div x left), ap (rest w) is ∙ ap (λ (n : ℕ). w - suc n) (digits_mod x left) ∙ omega arith)

pub only_parts : (w : ℕ) (z q : ℤ) (f : ℕ) → Parts w z q f → (down w z ≡ q) × (rest w z ≡ f)
only_parts w z q f p = let a = at_parts w q f p.small in (ap (down w) (sym p.sum) ∙ a.0, ap (rest w) (sym p.sum) ∙ a.1)

-- whole multiples of w stay apart: they are added to the quotient, and leave the rest as it is
module _ (w : ℕ) (h : 0 < w) (q : ℤ) (e : ℕ) where
  apart : Parts w (q *ℤ pos w +ℤ pos e) (q +ℤ pos (e / w)) (e % w)
  apart = record {
    sum = ap (λ (z : ℤ). z +ℤ pos (e % w)) (sum_times q (pos (e / w)) w)
        ∙ +ℤ_assoc (q *ℤ pos w) (pos (e / w * w)) (pos (e % w))
        ∙ ap (λ (n : ℕ). q *ℤ pos w +ℤ pos n) (div-add-mod' e w);
    small = mod-lt e h;
  }

  pub down_apart : down w (q *ℤ pos w +ℤ pos e) ≡ q +ℤ pos (e / w)
  down_apart = (only_parts w _ _ _ apart).0

  pub rest_apart : rest w (q *ℤ pos w +ℤ pos e) ≡ e % w
  rest_apart = (only_parts w _ _ _ apart).1
