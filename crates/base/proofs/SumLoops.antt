-- Loops that add up numbers. Assumes nothing.
use mathlib.Core.Path.{◌≡◌, refl, ap, ◌∙◌}
use Prim.Native.Nat.{ℕ, ◌+◌, ◌*◌, ◌<◌, ◌≤◌}
use native.Mathlib.Nat.{add-mul}
use native.Mathlib.Numerals.{add-one}
use native.Mathlib.Omega.{arith}
use Rattle.base.specs.Lists.{sum_to}

-- one number more
pub sum_more : (f : ℕ → ℕ) (k : ℕ) → sum_to (k + 1) f ≡ sum_to k f + f k
unfolding sum_to
sum_more f k = ap (λ (n : ℕ). sum_to n f) (add-one k)

-- s is the sum of the first k numbers, each below a bound
pub record Summed (f : ℕ → ℕ) (bound k s : ℕ) : Type 0 where
  pub is : s ≡ sum_to k f
  pub small : s ≤ k * bound

pub summed_none : (f : ℕ → ℕ) (bound : ℕ) → Summed f bound 0 0
unfolding sum_to
summed_none f bound = record { is = refl; small = omega arith }

module _ {f : ℕ → ℕ} {bound k s : ℕ} (m : Summed f bound k s) where
  pub summed_more : (x : ℕ) → x ≡ f k → x < bound → Summed f bound (k + 1) (s + x)
  summed_more x e h = record { is = omega (arith, m.is, sum_more f k); small = omega (arith, m.small, add-mul k 1 bound) }

  pub summed_all : {n : ℕ} → k ≤ n → n ≤ k → (s ≡ sum_to n f) × (s ≤ n * bound)
  summed_all {n} h l = let e : k ≡ n = omega arith in (rw e at m.is, rw e at m.small)

-- the same for numbers at places `step` apart, from `start` on; `at` is the place after them
pub record Added (f : ℕ → ℕ) (start step bound k s at : ℕ) : Type 0 where
  pub is : s ≡ sum_to k (λ i. f (start + i * step))
  pub small : s ≤ k * bound
  pub next : at ≡ start + k * step

pub added_none : (f : ℕ → ℕ) (start step bound : ℕ) → Added f start step bound 0 0 start
added_none f start step bound = let m = summed_none (λ i. f (start + i * step)) bound in record { is = m.is; small = m.small; next = omega arith }

module _ {f : ℕ → ℕ} {start step bound k s at : ℕ} (a : Added f start step bound k s at) where
  sum : Summed (λ i. f (start + i * step)) bound k s
  sum = record { is = a.is; small = a.small }

  pub added_more : (x : ℕ) → x ≡ f at → x < bound → Added f start step bound (k + 1) (s + x) (at + step)
  added_more x e h = let m = summed_more sum x (e ∙ ap f a.next) h in record { is = m.is; small = m.small; next = omega (arith, a.next, add-mul k 1 step) }

  pub added_all : {n : ℕ} → k ≤ n → n ≤ k → (s ≡ sum_to n (λ i. f (start + i * step))) × (s ≤ n * bound)
  added_all h l = summed_all sum h l
