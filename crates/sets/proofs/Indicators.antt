-- Laws on the indicator of equal numbers. Assumes nothing.
use mathlib.Core.Path.{◌≡◌, refl, ap, ◌∙◌}
use mathlib.Core.Logic.{⊎_elim}
use Prim.Native.Nat.{ℕ, zero, suc, ◌≤◌, ◌<◌}
use native.Mathlib.Nat.{le_of_suc-le-suc, not-suc-le-zero, eq-or-lt_of_le}
use native.Mathlib.Decide.{ℕ_discrete}
use native.Mathlib.Omega.{arith}
use borrow.Author.Tests.{eq-eqb, ne_eqb}
use Rattle.base.specs.Lists.{sum_to}
use Rattle.base.proofs.Sums.{sum_ext, sum_zero}
use Rattle.sets.specs.Clauses.{num, ind}

pub ind_same : (x : ℕ) → ind x x ≡ 1
unfolding ind
ind_same x = ap num (eq-eqb x x refl)

pub ind_other : (x y : ℕ) → (x ≡ y → ⊥) → ind x y ≡ 0
unfolding ind
ind_other x y n = ap num (ne_eqb x y n)

pub ind_le : (x y : ℕ) → ind x y ≤ 1
ind_le x y = go (ℕ_discrete x y)
  where
    go : Dec (x ≡ y) → ind x y ≤ 1
    go (yes e) = rw (e, ind_same y) (omega arith)
    go (no n) = rw (ind_other x y n) (omega arith)

pub ind_eq : (x y : ℕ) → ind x y ≡ 1 → x ≡ y
ind_eq x y h = go (ℕ_discrete x y)
  where
    go : Dec (x ≡ y) → x ≡ y
    go (yes e) = e
    go (no n) = absurd (omega (arith, ind_other x y n))

-- a sum with one term
pub sum_ind : (n k : ℕ) → k < n → sum_to n (λ j. ind j k) ≡ 1
unfolding sum_to
sum_ind zero k h = absurd (not-suc-le-zero h)
sum_ind (suc n) k h = ⊎_elim
    (λ q. let a : ind n k ≡ 1 = ap (ind n) q ∙ ind_same n in
    let z : sum_to n (λ j. ind j k) ≡ 0 = sum_ext n (λ j. ind j k) (λ j. 0) (λ j l. ind_other j k (λ e. omega arith)) ∙ sum_zero n in
    omega arith)
    (λ l. omega (arith, sum_ind n k l, ind_other n k (λ e. omega arith)))
    (eq-or-lt_of_le (le_of_suc-le-suc h))
