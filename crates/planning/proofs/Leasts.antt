-- Laws on the smallest of a number of each element of a list. Assumes nothing.
use mathlib.Core.Path.{◌≡◌, refl, ap}
use mathlib.Core.Logic.{⊎_elim}
use mathlib.Core.List.Memᴰ.{head as here}
use mathlib.Core.List.Memᴰ.{tail as there}
use mathlib.Core.List.{List, [], ◌∷◌, map, Memᴰ as Member}
use mathlib.Core.List.Memᴰ.{cases_cons as member-cases}
use mathlib.Core.List.Memᴰ.{not-nil as member-none}
use Prim.Native.Nat.{ℕ, ◌≤◌, min}
use native.Mathlib.Decide.{dec_le}
use native.Mathlib.Omega.{arith}
use Rattle.base.specs.Lists.{least}

module _ {ℓ} {A : Type ℓ} where
  module _ (f : A → ℕ) where
    pub least_le : (l : List A) {x : A} → Member x l → least (map f l) ≤ f x
    unfolding least
    least_le [] m = absurd (member-none m)
    least_le (y ∷ []) m = ⊎_elim (λ e. omega (arith, ap f e)) (λ k. absurd (member-none k)) (member-cases m)
    least_le (y ∷ z ∷ l) m = ⊎_elim (λ e. omega (arith, ap f e)) (λ k. omega (arith, least_le (z ∷ l) k)) (member-cases m)

    -- an element that has it
    pub record Attained (l : List A) (v : ℕ) : Type ℓ where
      pub at : A
      pub member : Member at l
      pub is : v ≡ f at

    pub attained : (y : A) (l : List A) → Attained (y ∷ l) (least (map f (y ∷ l)))
    unfolding least
    attained y [] = record { at = y; member = here refl; is = refl }
    attained y (z ∷ l) = go (attained z l) (dec_le (f y) (least (map f (z ∷ l))))
      where
        go : Attained (z ∷ l) (least (map f (z ∷ l))) → Dec (f y ≤ least (map f (z ∷ l))) → Attained (y ∷ z ∷ l) (min (f y) (least (map f (z ∷ l))))
        go a (yes h) = record { at = y; member = here refl; is = omega arith }
        go a (no h) = record { at = a.at; member = there a.member; is = omega (arith, a.is) }

  pub attained_in : (f : A → ℕ) (l : List A) {x : A} → Member x l → Attained f l (least (map f l))
  attained_in f [] m = absurd (member-none m)
  attained_in f (y ∷ l) m = attained f y l
