-- Laws on tests: a number or a statement by a test. Assumes nothing.
use mathlib.Core.Path.{◌≡◌, refl, sym, ap}
use mathlib.Core.Bool.{Bool, true, false, cond, ◌||◌, or-true, or-false}
use Prim.Native.Nat.{ℕ, ◌+◌, ◌*◌, ◌≤◌}
use native.Mathlib.Nat.{le_refl, zero-mul}
use native.Mathlib.Omega.{arith}

-- what holds on both ways of a test
pub by_test {ℓ κ} : {A : Type ℓ} (P : A → Type κ) (t : Bool) {x y : A} → (t ≡ true → P x) → (t ≡ false → P y) → P (cond t x y)
by_test P true f g = f refl
by_test P false f g = g refl

-- what is equal if the test passes
pub under_test {ℓ} : {A : Type ℓ} (t : Bool) (z : A) {x y : A} → (t ≡ true → x ≡ y) → cond t x z ≡ cond t y z
under_test true z h = h refl
under_test false z h = refl

-- a number that counts only if a test passes
pub test_times : (t : Bool) (x : ℕ) → cond t x 0 ≡ cond t 1 0 * x
test_times true x = omega arith
test_times false x = sym (zero-mul x)

pub test_parts : (t : Bool) (x : ℕ) → cond t x 0 + cond t 0 x ≡ x
test_parts true x = omega arith
test_parts false x = omega arith

pub test_le : (t : Bool) {x y : ℕ} → x ≤ y → cond t x 0 ≤ cond t y 0
test_le true h = h
test_le false h = le_refl 0

pub test_or : (u t : Bool) → cond {A = ℕ} t 1 (cond u 1 0) ≡ cond (u || t) 1 0
test_or u true = ap (λ (x : Bool). cond {A = ℕ} x 1 0) (sym (or-true u))
test_or u false = ap (λ (x : Bool). cond {A = ℕ} x 1 0) (sym (or-false u))
