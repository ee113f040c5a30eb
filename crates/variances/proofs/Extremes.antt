-- The smallest and the largest of a list: each is one of it, and none is beyond. Assumes nothing.
use mathlib.Core.Path.{◌≡◌, refl, sym}
use mathlib.Core.Bool.{Bool, true, false, cond, false≢true}
use mathlib.Core.Logic.{⊎_elim}
use mathlib.Core.List.Memᴰ.{head as here}
use mathlib.Core.List.Memᴰ.{tail as there}
use mathlib.Core.List.{List, [], ◌∷◌, foldl, Memᴰ as Member}
use mathlib.Core.List.Memᴰ.{cases_cons as member-cases}
use mathlib.Core.List.Memᴰ.{not-nil as member-none}
use Prim.Native.Nat.{◌≤◌}
use native.Mathlib.Nat.{le_refl, le_trans, le_of_lt}
use native.Mathlib.Omega.{arith}
use borrow.Author.Tests.{le-leb, leb-true, leb-false}
use lib.IntN.{ℤ, pos, negsuc}
use lib.ListN.{length}
use lib.Signed.{le_z}
use Rattle.covariances.specs.Covariance.{smaller, larger, extreme, smallest, largest}

-- numbers with a sign in their order
le_self : (x : ℤ) → le_z x x ≡ true
le_self (pos a) = le-leb a a (le_refl a)
le_self (negsuc a) = le-leb a a (le_refl a)

le_next : (x y z : ℤ) → le_z x y ≡ true → le_z y z ≡ true → le_z x z ≡ true
le_next (pos a) (pos b) (pos c) h k = le-leb a c (le_trans (leb-true a b h) (leb-true b c k))
le_next (pos a) (pos b) (negsuc c) h k = k
le_next (pos a) (negsuc b) z h k = absurd (false≢true h)
le_next (negsuc a) (pos b) (pos c) h k = refl
le_next (negsuc a) (pos b) (negsuc c) h k = absurd (false≢true k)
le_next (negsuc a) (negsuc b) (pos c) h k = refl
le_next (negsuc a) (negsuc b) (negsuc c) h k = le-leb c a (le_trans (leb-true c b k) (leb-true b a h))

le_other : (x y : ℤ) → le_z x y ≡ false → le_z y x ≡ true
le_other (pos a) (pos b) h = le-leb b a (le_of_lt (leb-false a b h))
le_other (pos a) (negsuc b) h = refl
le_other (negsuc a) (pos b) h = sym h
le_other (negsuc a) (negsuc b) h = le-leb a b (le_of_lt (leb-false b a h))

-- f gives one of two numbers, the one that is before the other
module _ (f : ℤ → ℤ → ℤ) (before : ℤ → ℤ → Bool)
    (by : (P : ℤ → Type 0) (x y : ℤ) → (before x y ≡ true → P x) → (before y x ≡ true → P y) → P (f x y))
    (self : (x : ℤ) → before x x ≡ true) (next : (x y z : ℤ) → before x y ≡ true → before y z ≡ true → before x z ≡ true) where
  fold_in : (x : ℤ) (l : List ℤ) → Member (foldl f x l) (x ∷ l)
  fold_in x [] = here refl
  fold_in x (y ∷ l) =
      by (λ v. Member (foldl f (f x y) l) (v ∷ l) → Member (foldl f (f x y) l) (x ∷ y ∷ l)) x y
      (λ _ m. ⊎_elim (λ e. here e) (λ k. there (there k)) (member-cases m)) (λ _ m. there m) (fold_in (f x y) l)

  fold_first : (x : ℤ) (l : List ℤ) → before (foldl f x l) x ≡ true
  fold_first x [] = self x
  fold_first x (y ∷ l) = next _ _ _ (fold_first (f x y) l) (by (λ v. before v x ≡ true) x y (λ _. self x) (λ e. e))

  fold_each : (x : ℤ) (l : List ℤ) (z : ℤ) → Member z l → before (foldl f x l) z ≡ true
  fold_each x [] z m = absurd (member-none m)
  fold_each x (y ∷ l) z m =
      let here-too : before (foldl f (f x y) l) y ≡ true = next _ _ _ (fold_first (f x y) l) (by (λ v. before v y ≡ true) x y (λ e. e) (λ _. self y)) in
      ⊎_elim (λ e. rw e here-too) (λ k. fold_each (f x y) l z k) (member-cases m)

  extreme_is : (l : List ℤ) → 1 ≤ length l → Member (extreme f l) l × ((z : ℤ) → Member z l → before (extreme f l) z ≡ true)
  unfolding extreme
  extreme_is [] h = absurd (omega arith)
  extreme_is (x ∷ l) h = (fold_in x l, λ z m. ⊎_elim (λ e. rw e (fold_first x l)) (λ k. fold_each x l z k) (member-cases m))

smaller_by : (P : ℤ → Type 0) (x y : ℤ) → (le_z x y ≡ true → P x) → (le_z y x ≡ true → P y) → P (smaller x y)
smaller_by P x y a b = go (le_z x y) refl
  where
    go : (t : Bool) → le_z x y ≡ t → P (cond t x y)
    go true e = a e
    go false e = b (le_other x y e)

larger_by : (P : ℤ → Type 0) (x y : ℤ) → (le_z y x ≡ true → P x) → (le_z x y ≡ true → P y) → P (larger x y)
larger_by P x y a b = go (le_z x y) refl
  where
    go : (t : Bool) → le_z x y ≡ t → P (cond t y x)
    go true e = b e
    go false e = a (le_other x y e)

pub smallest_is : (l : List ℤ) → 1 ≤ length l → Member (smallest l) l × ((z : ℤ) → Member z l → le_z (smallest l) z ≡ true)
smallest_is = extreme_is smaller le_z smaller_by le_self le_next

pub largest_is : (l : List ℤ) → 1 ≤ length l → Member (largest l) l × ((z : ℤ) → Member z l → le_z z (largest l) ≡ true)
largest_is = extreme_is larger (λ x y. le_z y x) larger_by le_self (λ x y z h k. le_next z y x k h)
