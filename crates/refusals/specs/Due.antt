-- Which refusal a call returns: the first of its list that applies (specification, "Refusals"). Assumes nothing.
use Rattle.std.specs.Prelude.{◌≡◌, Bool, true, false, not, List, [], ◌∷◌, ◌++◌, Option, Some, None, Result, Ok, Err, ⊤}
use Rattle.base.specs.Lists.{all}
use Rattle.refusals.specs.declared.Refusal.{Refusal}

-- a row of a call's list: whether its condition holds, and the refusal that it stands for
pub record Test : Type 0 where
  pub applies : Bool
  pub refusal : Refusal

abbrev pub refuse : Refusal → Bool → Test
refuse x b = record { applies = b; refusal = x }

-- the first refusal, in the order of the list, whose condition holds; none where no condition holds
unfoldable pub due : List Test → Option Refusal
due [] = None
due (t ∷ l) = elim t.applies [ true ↦ Some t.refusal | false ↦ due l ]

-- no condition of a list holds
abbrev pub none_applies : List Test → Bool
none_applies l = all (λ t. not t.applies) l

-- x is the refusal of a row whose condition holds, and no condition before that row does
pub record FirstDue (l : List Test) (x : Refusal) : Type 0 where
  pub before : List Test
  pub row : Test
  pub later : List Test
  pub list : l ≡ before ++ (row ∷ later)
  pub applies : row.applies ≡ true
  pub refusal : row.refusal ≡ x
  pub nothing_before : none_applies before ≡ true

-- by cases of what is due: something of the refusal, or what there is without one
abbrev pub refused_or {ℓ} : {A : Type ℓ} → (Refusal → A) → A → Option Refusal → A
refused_or refused accepted None = accepted
refused_or refused accepted (Some x) = refused x

-- the answer of a call that returns nothing but its success
unfoldable pub answer_of : Option Refusal → Result ⊤ Refusal
answer_of x = refused_or Err (Ok tt) x

-- a refusal changes nothing: what a call leaves, of what it would write and of what stood there before
unfoldable pub after {ℓ} : {A : Type ℓ} → Option Refusal → A → A → A
after x new old = refused_or (λ _. old) new x

-- what a call that returns nothing but its success is held to: its answer r is what is due, and what it leaves is `new`, or after a refusal `old`
pub record Answers {ℓ} {A : Type ℓ} (o : Option Refusal) (new old : A) (r : Result ⊤ Refusal) (result : A) : Type ℓ where
  pub answer : r ≡ answer_of o
  pub left : result ≡ after o new old
