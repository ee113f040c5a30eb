-- Laws on two lists of one length that are taken together place by place. Assumes nothing.
use mathlib.Core.Path.{◌≡◌, refl, sym, ap}
use mathlib.Core.List.{List, [], ◌∷◌, zip_with}
use Prim.Native.Nat.{ℕ, zero, suc}
use native.Mathlib.Omega.{arith}
use lib.ListN.{length, get_or}

module _ {A B C : Type 0} (f : A → B → C) where
  pub zip_length : (l : List A) (m : List B) → length l ≡ length m → length (zip_with f l m) ≡ length l
  unfolding zip_with
  zip_length [] m e = refl
  zip_length (x ∷ l) [] e = absurd (omega arith)
  zip_length (x ∷ l) (y ∷ m) e = ap suc (zip_length l m (omega arith))

  -- beyond the end the lists read as a and b, and what is made of them as c
  pub zip_at : {a : A} {b : B} {c : C} → f a b ≡ c → (l : List A) (m : List B) → length l ≡ length m → (i : ℕ)
      → get_or (zip_with f l m) i c ≡ f (get_or l i a) (get_or m i b)
  unfolding zip_with
  zip_at z [] [] e i = sym z
  zip_at z [] (y ∷ m) e i = absurd (omega arith)
  zip_at z (x ∷ l) [] e i = absurd (omega arith)
  zip_at z (x ∷ l) (y ∷ m) e zero = refl
  zip_at z (x ∷ l) (y ∷ m) e (suc i) = zip_at z l m (omega arith) i
