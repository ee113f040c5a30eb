-- The order of arrays, and a search for the first of them (specification, "The rounding"), whatever kind of number a count is. Assumes nothing.
use Rattle.std.specs.Prelude.{◌≡◌, ◌⊎◌, Bool, true, false, List, [], ◌∷◌, ℕ, ◌+◌, ◌*◌, ◌/◌, ◌%◌, ◌<◌, get_or, Option, Some, None}
use Rattle.base.specs.Lists.{tabulate}
use Rattle.cell_order.specs.Order.{nth_row, nth_column, rank}

-- the counts of an array of r by c cells, in the order in which cells are compared, zero where the list has none; and the array that has such counts
unfoldable pub in_order : {A : Type 0} → A → ℕ → ℕ → List A → List A
in_order zero r c n = tabulate (r * c) (λ i. get_or n (nth_row r c i * c + nth_column r c i) zero)

unfoldable pub array_of : {A : Type 0} → A → ℕ → ℕ → List A → List A
array_of zero r c l = tabulate (r * c) (λ k. get_or l (rank r c (k / c) (k % c)) zero)

-- at the first difference the first list has the smaller count
abbrev pub Smaller : {A : Type 0} → (A → A → Type 0) → List A → List A → Type 0
Smaller less [] n = ⊥
Smaller less (x ∷ k) [] = ⊥
Smaller less (x ∷ k) (y ∷ n) = less x y ⊎ ((x ≡ y) × Smaller less k n)

-- array k comes before array n: at the first cell, in the order of cells, where they differ, it has the smaller count
abbrev pub Before : ℕ → ℕ → List ℕ → List ℕ → Type 0
Before r c k n = Smaller ◌<◌ (in_order 0 r c k) (in_order 0 r c n)

-- two counts to choose from, the smaller first
pub record Choice (A : Type 0) : Type 0 where
  pub low : A
  pub high : A

-- the low count with what follows it, else the high one
abbrev pub either : {A : Type 0} → A → A → Option (List A) → Option (List A) → Option (List A)
either l h (Some n) v = Some (l ∷ n)
either l h None (Some n) = Some (h ∷ n)
either l h None None = None

-- the empty list, if it passes
abbrev pub empty_if : {A : Type 0} → Bool → Option (List A)
empty_if true = Some []
empty_if false = None

-- the counts that a search found, if any
abbrev pub found : {A : Type 0} → Option (List A) → List A
found (Some n) = n
found None = []

-- the first list of all those made of such counts that pass a test: at each place the smaller count is tried first, with all that can follow it
unfoldable pub first_of : {A : Type 0} → (List A → Bool) → List (Choice A) → Option (List A)
first_of test [] = empty_if (test [])
first_of test (c ∷ cs) =
    either c.low c.high (first_of (λ n. test (c.low ∷ n)) cs) (first_of (λ n. test (c.high ∷ n)) cs)
