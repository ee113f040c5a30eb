-- The digits of a number. Assumes nothing.
use mathlib.Core.Path.{◌≡◌, refl, sym, ap, ◌∙◌}
use mathlib.Core.List.{List, [], ◌∷◌, ◌++◌}
use Prim.Native.Nat.{ℕ, zero, suc, ◌+◌, ◌/◌, ◌%◌, ◌^◌, ◌<◌, ◌≤◌}
use native.Mathlib.Decide.{dec_lt}
use native.Mathlib.Nat.{pow-suc, div-lt_iff_lt-mul}
use native.Mathlib.Omega.{arith}
use borrow.Author.Tests.{lt-ltb, le-ltb}
use lib.ListN.{length, length-append}
use Rattle.printing.specs.Lines.{digits, decimal}

digits_small : (n x : ℕ) → x < 10 → digits n x ≡ (48 + x) ∷ []
unfolding digits
digits_small zero x h = refl
digits_small (suc n) x h = simp (lt-ltb x 10 h)

digits_none : (x : ℕ) → digits zero x ≡ (48 + x) ∷ []
unfolding digits
digits_none x = refl

digits_more : (n x : ℕ) → 10 ≤ x → digits (suc n) x ≡ digits n (x / 10) ++ ((48 + x % 10) ∷ [])
unfolding digits
digits_more n x h = simp (le-ltb x 10 h)

tenth : (n x : ℕ) → x < 10 ^ suc n → x / 10 < 10 ^ n
tenth n x h = (div-lt_iff_lt-mul {k = 10} (omega arith)).1 (rw (pow-suc 10 n) at h)

-- a digit more than a number has changes nothing
digits_enough : (n x : ℕ) → x < 10 ^ suc n → digits (suc n) x ≡ digits n x
digits_enough zero x h = digits_small 1 x h ∙ sym (digits_small 0 x h)
digits_enough (suc n) x h = go (dec_lt x 10) (digits_enough n (x / 10) (tenth (suc n) x h))
  where
    go : Dec (x < 10) → digits (suc n) (x / 10) ≡ digits n (x / 10) → digits (suc (suc n)) x ≡ digits (suc n) x
    go (yes s) e = digits_small (suc (suc n)) x s ∙ sym (digits_small (suc n) x s)
    go (no s) e = digits_more (suc n) x (omega arith) ∙ ap (λ (l : List ℕ). l ++ ((48 + x % 10) ∷ [])) e ∙ sym (digits_more n x (omega arith))

digits_step : (m n x : ℕ) → length (digits n (x / 10)) ≤ m → length (digits (suc n) x) ≤ suc m
digits_step m n x h = go (dec_lt x 10)
  where
    go : Dec (x < 10) → length (digits (suc n) x) ≤ suc m
    go (yes s) = rw (digits_small (suc n) x s) (omega arith)
    go (no s) = rw (digits_more n x (omega arith)) (simp length-append (omega arith))

digits_most : (n x : ℕ) → length (digits n x) ≤ suc n
digits_most zero x = rw (digits_none x) (omega arith)
digits_most (suc n) x = digits_step (suc n) n x (digits_most n (x / 10))

digits_length : (k n x : ℕ) → x < 10 ^ suc k → length (digits n x) ≤ suc k
digits_length zero n x h = rw (digits_small n x h) (omega arith)
digits_length (suc k) zero x h = rw (digits_none x) (omega arith)
digits_length (suc k) (suc n) x h = digits_step (suc k) n x (digits_length k n (x / 10) (tenth (suc k) x h))

pub decimal_most : (x : ℕ) → length (decimal x) ≤ 20
unfolding decimal
decimal_most x = digits_most 19 x

-- a number below 10 ^ (k + 1) has at most k + 1 digits
pub decimal_length : (k x : ℕ) → x < 10 ^ suc k → length (decimal x) ≤ suc k
unfolding decimal
decimal_length k x h = digits_length k 19 x h

pub decimal_small : (x : ℕ) → x < 10 → decimal x ≡ (48 + x) ∷ []
unfolding decimal
decimal_small x h = digits_small 19 x h

pub decimal_more : (x : ℕ) → 10 ≤ x → x < 18446744073709551616 → decimal x ≡ decimal (x / 10) ++ ((48 + x % 10) ∷ [])
unfolding decimal
decimal_more x h k = digits_more 18 x h ∙ ap (λ (l : List ℕ). l ++ ((48 + x % 10) ∷ [])) (sym (digits_enough 18 (x / 10) (omega arith)))
