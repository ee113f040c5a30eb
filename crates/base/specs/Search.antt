-- The first number, and the first element of a list, that passes a test. Assumes nothing.
use Rattle.std.specs.Prelude.{◌≡◌, Bool, true, not, cond, List, [], ◌∷◌, ◌++◌, ℕ, zero, suc}
use Rattle.base.specs.Lists.{all}

-- the first of n, n + 1, .., `count` numbers in all, that passes a test; 0 where none does
unfoldable pub first_from : (ℕ → Bool) → ℕ → ℕ → ℕ
first_from test n zero = 0
first_from test n (suc count) = cond (test n) n (first_from test (suc n) count)

-- the first element of a list that passes a test; `other` where none does
unfoldable pub first_that {ℓ} : {A : Type ℓ} → (A → Bool) → List A → A → A
first_that test [] other = other
first_that test (x ∷ l) other = cond (test x) x (first_that test l other)

-- x is in the list and passes, and no element before it does
pub record FirstOf {ℓ} {A : Type ℓ} (test : A → Bool) (l : List A) (x : A) : Type ℓ where
  pub before : List A
  pub later : List A
  pub list : l ≡ before ++ (x ∷ later)
  pub passes : test x ≡ true
  pub none_before : all (λ y. not (test y)) before ≡ true
