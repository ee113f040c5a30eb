-- Laws on the order of arrays. Assumes nothing.
use mathlib.Core.Path.{◌≡◌, refl, ◌∙◌}
use mathlib.Core.Logic.{inl, inr}
use mathlib.Core.Bool.{Bool, true, false, ◌&&◌, ◌||◌}
use mathlib.Core.List.{List, [], ◌∷◌}
use Prim.Native.Nat.{ℕ, ◌<◌}
use native.Mathlib.Omega.{arith}
use lib.Dec.{eqb, ltb}
use borrow.Author.Tests.{eq-eqb, eqb-true, lt-ltb, ltb-true}
use Rattle.base.proofs.Lists.{and_left, and_right}
use Rattle.first_rounding.specs.Order.{Smaller}
use Rattle.next_rounding.specs.Next.{is_smaller}

pub not_before_itself : (l : List ℕ) → Smaller ◌<◌ l l → ⊥
not_before_itself [] b = b
not_before_itself (x ∷ l) (inl h) = omega arith
not_before_itself (x ∷ l) (inr e) = not_before_itself l e.1

pub smaller_trans : (k m n : List ℕ) → Smaller ◌<◌ k m → Smaller ◌<◌ m n → Smaller ◌<◌ k n
smaller_trans [] m n a b = absurd a
smaller_trans (x ∷ k) [] n a b = absurd a
smaller_trans (x ∷ k) (y ∷ m) [] a b = absurd b
smaller_trans (x ∷ k) (y ∷ m) (z ∷ n) (inl a) (inl b) = inl (omega arith)
smaller_trans (x ∷ k) (y ∷ m) (z ∷ n) (inl a) (inr b) = let e : y ≡ z = b.0 in inl (omega arith)
smaller_trans (x ∷ k) (y ∷ m) (z ∷ n) (inr a) (inl b) = let e : x ≡ y = a.0 in inl (omega arith)
smaller_trans (x ∷ k) (y ∷ m) (z ∷ n) (inr a) (inr b) = inr (a.0 ∙ b.0, smaller_trans k m n a.1 b.1)

-- the test says so
pub is_smaller_lem : (k n : List ℕ) → is_smaller k n ≡ true → Smaller ◌<◌ k n
is_smaller_lem [] n h = absurd (let z : ◌≡◌ {A = ℕ} 0 1 = cc in omega arith)
is_smaller_lem (x ∷ k) [] h = absurd (let z : ◌≡◌ {A = ℕ} 0 1 = cc in omega arith)
is_smaller_lem (x ∷ k) (y ∷ n) h = go (ltb x y) refl (is_smaller_lem k n)
  where
    go : (b : Bool) → ltb x y ≡ b → (is_smaller k n ≡ true → Smaller ◌<◌ k n) → Smaller ◌<◌ (x ∷ k) (y ∷ n)
    go true e next = inl (ltb-true x y e)
    go false e next =
        let both : (eqb x y && is_smaller k n) ≡ true = rw e at h in
        inr (eqb-true x y (and_left (eqb x y) (is_smaller k n) both), next (and_right (eqb x y) (is_smaller k n) both))

pub so_smaller : (k n : List ℕ) → Smaller ◌<◌ k n → is_smaller k n ≡ true
so_smaller [] n b = absurd b
so_smaller (x ∷ k) [] b = absurd b
so_smaller (x ∷ k) (y ∷ n) (inl h) = simp (lt-ltb x y h)
so_smaller (x ∷ k) (y ∷ n) (inr e) = go (ltb x y) (so_smaller k n e.1)
  where
    go : (b : Bool) → is_smaller k n ≡ true → (b || (eqb x y && is_smaller k n)) ≡ true
    go true next = refl
    go false next = simp (eq-eqb x y e.0, next)
