-- Differences of two naturals, with their sign. Assumes nothing.
use mathlib.Core.Path.{◌≡◌, refl, sym, ap, ap₂, ◌∙◌}
use mathlib.Core.List.{List, [], ◌∷◌, map}
use Prim.Native.Nat.{ℕ, zero, suc, ◌+◌, ◌-◌, ◌*◌, ◌<◌, ◌≤◌}
use native.Mathlib.Decide.{dec_lt}
use native.Mathlib.Nat.{add-mul}
use native.Mathlib.Omega.{arith}
use lib.IntN.{ℤ, pos, negsuc, neg_ℤ, sub_ℕ, ◌+ℤ◌, ◌*ℤ◌, +ℤ_assoc, +ℤ_comm}
use borrow.Author.Tests.{lt-ltb, le-ltb}
use Rattle.base.specs.Lists.{sumℤ}

module _ (a b : ℕ) where
  pub sub_below : a < b → sub_ℕ a b ≡ negsuc (b - suc a)
  sub_below h = simp (lt-ltb a b h)

  pub sub_above : b ≤ a → sub_ℕ a b ≡ pos (a - b)
  sub_above h = simp (le-ltb a b h)

-- differences are equal if the sums crosswise are
pub sub_same : (a b c d : ℕ) → a + d ≡ c + b → sub_ℕ a b ≡ sub_ℕ c d
sub_same a b c d e = go (dec_lt a b)
  where
    go : Dec (a < b) → sub_ℕ a b ≡ sub_ℕ c d
    go (yes h) = sub_below a b h ∙ ap negsuc (omega arith) ∙ sym (sub_below c d (omega arith))
    go (no h) = sub_above a b (omega arith) ∙ ap pos (omega arith) ∙ sym (sub_above c d (omega arith))

pub sub_none : (n : ℕ) → sub_ℕ n 0 ≡ pos n
sub_none n = sub_above n 0 (omega arith) ∙ ap pos (omega arith)

pub sub_add : (a b c d : ℕ) → sub_ℕ a b +ℤ sub_ℕ c d ≡ sub_ℕ (a + c) (b + d)
sub_add a b c d = go (dec_lt a b) (dec_lt c d)
  where
    go : Dec (a < b) → Dec (c < d) → sub_ℕ a b +ℤ sub_ℕ c d ≡ sub_ℕ (a + c) (b + d)
    go (yes h) (yes k) = ap₂ ◌+ℤ◌ (sub_below a b h) (sub_below c d k) ∙ ap negsuc (omega arith) ∙ sym (sub_below (a + c) (b + d) (omega arith))
    go (yes h) (no k) = ap₂ ◌+ℤ◌ (sub_below a b h) (sub_above c d (omega arith)) ∙ sub_same (c - d) (suc (b - suc a)) (a + c) (b + d) (omega arith)
    go (no h) (yes k) = ap₂ ◌+ℤ◌ (sub_above a b (omega arith)) (sub_below c d k) ∙ sub_same (a - b) (suc (d - suc c)) (a + c) (b + d) (omega arith)
    go (no h) (no k) = ap₂ ◌+ℤ◌ (sub_above a b (omega arith)) (sub_above c d (omega arith)) ∙ ap pos (omega arith) ∙ sym (sub_above (a + c) (b + d) (omega arith))

-- a sum of equal numbers
pub sums_same {ℓ} : {A : Type ℓ} (f g : A → ℤ) → ((x : A) → f x ≡ g x) → (l : List A) → sumℤ (map f l) ≡ sumℤ (map g l)
unfolding sumℤ
sums_same f g e [] = refl
sums_same f g e (x ∷ l) = ap₂ ◌+ℤ◌ (e x) (sums_same f g e l)

-- the opposite of a natural
pub opposite : (n : ℕ) → neg_ℤ (pos n) ≡ sub_ℕ 0 n
opposite zero = refl
opposite (suc n) = sym (sub_below 0 (suc n) (omega arith) ∙ ap negsuc (omega arith))

-- every number is a difference
pub record Difference (z : ℤ) : Type 0 where
  pub high : ℕ
  pub low : ℕ
  pub is : z ≡ sub_ℕ high low

pub difference : (z : ℤ) → Difference z
difference (pos n) = record { high = n; low = 0; is = sym (sub_none n) }
difference (negsuc n) = record { high = 0; low = suc n; is = opposite (suc n) }

-- times a natural
pub sub_times : (a b w : ℕ) → sub_ℕ a b *ℤ pos w ≡ sub_ℕ (a * w) (b * w)
sub_times a b w = go (dec_lt a b)
  where
    go : Dec (a < b) → sub_ℕ a b *ℤ pos w ≡ sub_ℕ (a * w) (b * w)
    go (yes h) =
        let n : suc (b - suc a) ≡ b - a = omega arith in
        ap (λ (z : ℤ). z *ℤ pos w) (sub_below a b h)
        ∙ ap (λ (m : ℕ). neg_ℤ (pos (m * w))) n
        ∙ opposite ((b - a) * w)
        ∙ sub_same 0 ((b - a) * w) (a * w) (b * w) (let d : b ≡ a + (b - a) = omega arith in let e : b * w ≡ a * w + (b - a) * w = ap (λ (m : ℕ). m * w) d ∙ add-mul a (b - a) w in omega arith)
    go (no h) =
        ap (λ (z : ℤ). z *ℤ pos w) (sub_above a b (omega arith))
        ∙ sym (sub_none ((a - b) * w))
        ∙ sub_same ((a - b) * w) 0 (a * w) (b * w) (let d : a ≡ b + (a - b) = omega arith in let e : a * w ≡ b * w + (a - b) * w = ap (λ (m : ℕ). m * w) d ∙ add-mul b (a - b) w in omega arith)

-- a sum times a natural
pub sum_times : (x y : ℤ) (w : ℕ) → (x +ℤ y) *ℤ pos w ≡ x *ℤ pos w +ℤ y *ℤ pos w
sum_times x y w =
    let u = difference x in
    let v = difference y in
    let sum : x +ℤ y ≡ sub_ℕ (u.high + v.high) (u.low + v.low) = ap₂ ◌+ℤ◌ u.is v.is ∙ sub_add u.high u.low v.high v.low in
    ap (λ (z : ℤ). z *ℤ pos w) sum
    ∙ sub_times (u.high + v.high) (u.low + v.low) w
    ∙ ap₂ sub_ℕ (add-mul u.high v.high w) (add-mul u.low v.low w)
    ∙ sym (sub_add (u.high * w) (u.low * w) (v.high * w) (v.low * w))
    ∙ ap₂ ◌+ℤ◌
    (sym (ap (λ (z : ℤ). z *ℤ pos w) u.is ∙ sub_times u.high u.low w))
    (sym (ap (λ (z : ℤ). z *ℤ pos w) v.is ∙ sub_times v.high v.low w))

-- two sums of two, added crosswise
pub sum_cross : (a b c d : ℤ) → (a +ℤ b) +ℤ (c +ℤ d) ≡ (a +ℤ c) +ℤ (b +ℤ d)
sum_cross a b c d =
    +ℤ_assoc a b (c +ℤ d)
    ∙ ap (λ (z : ℤ). a +ℤ z) (sym (+ℤ_assoc b c d) ∙ ap (λ (z : ℤ). z +ℤ d) (+ℤ_comm b c) ∙ +ℤ_assoc c b d)
    ∙ sym (+ℤ_assoc a c (b +ℤ d))
