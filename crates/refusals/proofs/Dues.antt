-- Laws on the first refusal of a list that applies. Assumes nothing.
use Rattle.std.specs.Prelude.{Option, Some, None, Ok, Err}
use mathlib.Core.Path.{◌≡◌, refl, sym, ap, ◌∙◌}
use mathlib.Core.Bool.{Bool, true, false, not}
use mathlib.Core.List.{List, [], ◌∷◌, ◌++◌}
use Prim.Native.Nat.{ℕ}
use native.Mathlib.Omega.{arith}
use Rattle.base.specs.Lists.{all}
use Rattle.base.proofs.Lists.{and_left, and_right, and_both}
use Rattle.refusals.specs.declared.Refusal.{Refusal}
use Rattle.refusals.specs.Due.{Test, due, none_applies, FirstDue, answer_of, after, Answers}

-- the first row
module _ (t : Test) (l : List Test) where
  pub due_here : t.applies ≡ true → due (t ∷ l) ≡ Some t.refusal
  unfolding due
  due_here h = rw h

  pub due_next : t.applies ≡ false → due (t ∷ l) ≡ due l
  unfolding due
  due_next h = rw h

  -- nothing is due: the first condition does not hold, and nothing after it is due
  pub not_here : due (t ∷ l) ≡ None → t.applies ≡ false
  not_here h = go t.applies refl
    where
      go : (b : Bool) → t.applies ≡ b → t.applies ≡ false
      go false e = e
      go true e = absurd (let z : ◌≡◌ {A = ℕ} 0 1 = cc (due_here e) in omega arith)

  pub not_later : due (t ∷ l) ≡ None → due l ≡ None
  not_later h = sym (due_next (not_here h)) ∙ h

-- one list after another
pub due_first : (l m : List Test) (x : Refusal) → due l ≡ Some x → due (l ++ m) ≡ Some x
unfolding due
due_first [] m x h = absurd (let z : ◌≡◌ {A = ℕ} 0 1 = cc in omega arith)
due_first (t ∷ l) m x h = go t.applies refl (due_first l m x)
  where
    go : (b : Bool) → t.applies ≡ b → (due l ≡ Some x → due (l ++ m) ≡ Some x) → due (t ∷ (l ++ m)) ≡ Some x
    go true e next = due_here t (l ++ m) e ∙ sym (due_here t l e) ∙ h
    go false e next = due_next t (l ++ m) e ∙ next (sym (due_next t l e) ∙ h)

pub due_second : (l m : List Test) → due l ≡ None → due (l ++ m) ≡ due m
due_second [] m h = refl
due_second (t ∷ l) m h = due_next t (l ++ m) (not_here t l h) ∙ due_second l m (not_later t l h)

-- nothing is due of one list and another: nothing is due of the first
pub first_none : (l m : List Test) → due (l ++ m) ≡ None → due l ≡ None
first_none l m h = go (due l) refl
  where
    go : (o : Option Refusal) → due l ≡ o → due l ≡ None
    go None q = q
    go (Some x) q = absurd (let y = due_first l m x q in let z : ◌≡◌ {A = ℕ} 0 1 = cc in omega arith)

-- nothing is due exactly if no condition holds
pub none_applies_lem : (l : List Test) → due l ≡ None → none_applies l ≡ true
unfolding all
none_applies_lem [] h = refl
none_applies_lem (t ∷ l) h = and_both (ap not (not_here t l h)) (none_applies_lem l (not_later t l h))

not_not : (b : Bool) → not b ≡ true → b ≡ false
not_not true h = sym h
not_not false h = refl

pub none_due : (l : List Test) → none_applies l ≡ true → due l ≡ None
unfolding all due
none_due [] h = refl
none_due (t ∷ l) h = due_next t l (not_not t.applies (and_left (not t.applies) (none_applies l) h)) ∙ none_due l (and_right (not t.applies) (none_applies l) h)

-- what is due applies, and nothing before it does
pub first_due : (l : List Test) (x : Refusal) → due l ≡ Some x → FirstDue l x
unfolding due all
first_due [] x h = absurd (let z : ◌≡◌ {A = ℕ} 0 1 = cc in omega arith)
first_due (t ∷ l) x h = go t.applies refl (first_due l x)
  where
    go : (b : Bool) → t.applies ≡ b → (due l ≡ Some x → FirstDue l x) → FirstDue (t ∷ l) x
    go true e next = record { before = []; row = t; later = l; list = refl; applies = e; refusal = let s : Some t.refusal ≡ Some x = sym (due_here t l e) ∙ h in cc; nothing_before = refl }
    go false e next =
        let f = next (sym (due_next t l e) ∙ h) in
        record { before = t ∷ f.before; row = f.row; later = f.later; list = ap (λ k. t ∷ k) f.list; applies = f.applies; refusal = f.refusal; nothing_before = and_both (ap not e) f.nothing_before }

-- a call that is refused answers with what is due and leaves what stood there; one that is accepted leaves what it wrote
module _ {ℓ} {A : Type ℓ} {o : Option Refusal} {new old : A} where
  pub refused_so : {x : Refusal} → o ≡ Some x → Answers o new old (Err x) old
  unfolding answer_of after
  refused_so h = record { answer = rw h; left = rw h }

  pub accepted_so : {result : A} → o ≡ None → result ≡ new → Answers o new old (Ok tt) result
  unfolding answer_of after
  accepted_so h e = record { answer = rw h; left = rw h e }
