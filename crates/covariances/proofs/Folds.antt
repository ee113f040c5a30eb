-- Lists taken together number by number, as a loop does. Assumes nothing.
use mathlib.Core.Path.{◌≡◌, refl, sym, ap, ◌∙◌}
use mathlib.Core.List.{List, [], ◌∷◌, ◌++◌, foldl, foldl-append}
use Prim.Native.Nat.{ℕ, zero, suc, ◌+◌, ◌<◌, ◌≤◌}
use native.Mathlib.Numerals.{add-one}
use native.Mathlib.Omega.{arith}
use lib.ListN.{length, get_or, drop, length-drop}
use lib.Seq.{drop-cons}
use Rattle.base.specs.Lists.{tabulate, join_to}

-- a list with one number more
tabulate_last {ℓ} : {A : Type ℓ} (n : ℕ) (f : ℕ → A) → tabulate (suc n) f ≡ tabulate n f ++ (f n ∷ [])
unfolding tabulate
tabulate_last zero f = refl
tabulate_last (suc n) f = ap (λ l. f 0 ∷ l) (tabulate_last n (λ i. f (suc i)))

-- the numbers f 0, .., f k taken together
pub foldl_more : (g : ℕ → ℕ → ℕ) (start : ℕ) (f : ℕ → ℕ) (k : ℕ) → foldl g start (tabulate (k + 1) f) ≡ g (foldl g start (tabulate k f)) (f k)
foldl_more g start f k =
    ap (λ (n : ℕ). foldl g start (tabulate n f)) (add-one k)
    ∙ ap (foldl g start) (tabulate_last k f)
    ∙ foldl-append g start (tabulate k f) (f k ∷ [])

-- list after list
pub joined_more : (g : ℕ → ℕ → ℕ) (start : ℕ) (f : ℕ → List ℕ) (n x z : ℕ) → x ≡ foldl g start (join_to n f) → z ≡ foldl g x (f n) → z ≡ foldl g start (join_to (n + 1) f)
unfolding join_to
joined_more g start f n x z e q =
    q ∙ ap (λ (m : ℕ). foldl g m (f n)) e
    ∙ sym (foldl-append g start (join_to n f) (f n))
    ∙ ap (λ (m : ℕ). foldl g start (join_to m f)) (sym (add-one n))

-- what is left of a list of which a loop has taken the first k
pub record Left (xs rest : List ℕ) (k : ℕ) : Type 0 where
  pub few : k ≤ length xs
  pub is : rest ≡ drop k xs

pub left_all : (xs : List ℕ) → Left xs xs 0
left_all xs = record { few = omega arith; is = refl }

module _ {xs rest : List ℕ} {k : ℕ} (l : Left xs rest k) where
  module _ {x : ℕ} {next : List ℕ} (e : rest ≡ x ∷ next) where
    pub left_there : k < length xs
    left_there = omega (arith, ap length (sym e ∙ l.is), length-drop k xs, l.few)

    cons : x ∷ next ≡ get_or xs k 0 ∷ drop (suc k) xs
    cons = sym e ∙ l.is ∙ drop-cons xs k 0 left_there

    pub left_is : x ≡ get_or xs k 0
    left_is = ap (λ m. get_or m 0 0) cons

    pub left_next : Left xs next (k + 1)
    left_next = record { few = omega (arith, left_there); is = ap (drop 1) cons ∙ ap (λ (n : ℕ). drop n xs) (sym (add-one k)) }

  pub left_none : rest ≡ [] → k ≡ length xs
  left_none e = omega (arith, ap length (sym e ∙ l.is), length-drop k xs, l.few)
