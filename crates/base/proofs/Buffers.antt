-- Numbers written at the start of a lent buffer. Assumes nothing.
use mathlib.Core.Path.{◌≡◌, refl, ap, ◌∙◌}
use mathlib.Core.List.{List, [], ◌∷◌}
use Prim.Native.Nat.{ℕ, ◌<◌, ◌≤◌}
use native.Mathlib.Omega.{arith}
use lib.ListN.{length, get_or, set, take, drop, length-append, length-drop, length-set, get_or-append}
use lib.Seq.{take_at, drop_at}
use Rattle.base.specs.Buffers.{written}

module _ (x b : List ℕ) {n : ℕ} (e : length x ≡ n) where
  pub written_at : (i : ℕ) → i < n → get_or (written x b) i 0 ≡ get_or x i 0
  written_at i h = get_or-append x _ 0 i (omega arith)

  pub written_length : n ≤ length b → length (written x b) ≡ length b
  written_length h = simp (length-append, length-drop) (omega arith)

  pub written_front : take n (written x b) ≡ x
  written_front = take_at x _ n e

  pub written_beyond : drop n (written x b) ≡ drop n b
  written_beyond = drop_at x _ n e ∙ ap (λ (k : ℕ). drop k b) e

-- one number stored, and four one after another
module _ (l : List ℕ) (h : 4 ≤ length l) where
  pub second_room : (a : ℕ) → 1 < length (set l 0 a)
  second_room a = omega (arith, length-set l 0 a)

  pub third_room : (a b : ℕ) → 2 < length (set (set l 0 a) 1 b)
  third_room a b = omega (arith, length-set l 0 a, length-set (set l 0 a) 1 b)

pub one_set : (l : List ℕ) (x : ℕ) → 1 ≤ length l → set l 0 x ≡ written (x ∷ []) l
one_set [] x h = absurd (omega arith)
one_set (y ∷ l) x h = refl

pub four_set : (l : List ℕ) (a b c d : ℕ) → 4 ≤ length l → set (set (set (set l 0 a) 1 b) 2 c) 3 d ≡ written (a ∷ b ∷ c ∷ d ∷ []) l
four_set [] a b c d h = absurd (omega arith)
four_set (x ∷ []) a b c d h = absurd (omega arith)
four_set (x ∷ y ∷ []) a b c d h = absurd (omega arith)
four_set (x ∷ y ∷ z ∷ []) a b c d h = absurd (omega arith)
four_set (x ∷ y ∷ z ∷ w ∷ l) a b c d h = refl
