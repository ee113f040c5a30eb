-- What is due of two parts that are tested alike is the lower of what is due of each. Assumes nothing.
use Rattle.std.specs.Prelude.{Option, Some, None}
use mathlib.Core.Path.{◌≡◌, refl, sym, ap, ◌∙◌}
use mathlib.Core.Bool.{Bool, true, false}
use mathlib.Core.List.{List, [], ◌∷◌, zip_with}
use Prim.Native.Nat.{ℕ, ◌<◌, ◌≤◌}
use native.Mathlib.Nat.{le_refl}
use native.Mathlib.Omega.{arith}
use lib.Dec.{ltb}
use borrow.Author.Tests.{ltb-true, le-leb, lt-leb}
use Rattle.base.specs.Lists.{all}
use Rattle.base.proofs.Lists.{and_left, and_right}
use Rattle.refusals.specs.declared.Refusal.{Refusal}
use Rattle.refusals.specs.Numbers.{number_of}
use Rattle.refusals.specs.Due.{Test, refuse, due}
use Rattle.refusals.specs.Either.{either}
use Rattle.refusals.specs.Clauses.{lower_of}
use Rattle.refusals.proofs.Dues.{due_here, due_next}

-- x has a lower number than each row of a list
abbrev pub below : Refusal → List Test → Bool
below x l = all (λ t. ltb (number_of x) (number_of t.refusal)) l

-- two lists of the same refusals, whose numbers rise
pub data Alike : List Test → List Test → Type 0 where
  no_rows : Alike [] []
  row : (x : Refusal) (a b : Bool) {l m : List Test} → below x l ≡ true → below x m ≡ true → Alike l m → Alike (refuse x a ∷ l) (refuse x b ∷ m)

-- the lower of what is due of two parts
abbrev pub lower_due : Option Refusal → Option Refusal → Option Refusal
lower_due None p = p
lower_due (Some x) None = Some x
lower_due (Some x) (Some y) = Some (lower_of x y)

due_below : (x : Refusal) (l : List Test) → below x l ≡ true → (y : Refusal) → due l ≡ Some y → number_of x < number_of y
unfolding due all
due_below x [] h y e = absurd (let z : ◌≡◌ {A = ℕ} 0 1 = cc in omega arith)
due_below x (t ∷ l) h y e = go t.applies refl (due_below x l (and_right (ltb (number_of x) (number_of t.refusal)) (below x l) h) y)
  where
    go : (b : Bool) → t.applies ≡ b → (due l ≡ Some y → number_of x < number_of y) → number_of x < number_of y
    go true q next =
        let s : Some t.refusal ≡ Some y = sym (due_here t l q) ∙ e in
        let r : t.refusal ≡ y = cc in
        let lower : number_of x < number_of t.refusal = ltb-true _ _ (and_left (ltb (number_of x) (number_of t.refusal)) (below x l) h) in
        rw r at lower
    go false q next = next (sym (due_next t l q) ∙ e)

-- the lower of two refusals, by their numbers
pub lower_first : (x y : Refusal) → number_of x ≤ number_of y → x ≡ lower_of x y
lower_first x y h = rw (le-leb _ _ h) refl

pub lower_second : (x y : Refusal) → number_of y < number_of x → y ≡ lower_of x y
lower_second x y h = rw (lt-leb _ _ h) refl

-- one part meets x, and the other what is due of later rows, if anything
met_first : (x : Refusal) (m : List Test) → below x m ≡ true → (o : Option Refusal) → due m ≡ o → Some x ≡ lower_due (Some x) o
met_first x m h None q = refl
met_first x m h (Some y) q = ap Some (lower_first x y (omega (arith, due_below x m h y q)))

met_second : (x : Refusal) (l : List Test) → below x l ≡ true → (o : Option Refusal) → due l ≡ o → Some x ≡ lower_due o (Some x)
met_second x l h None q = refl
met_second x l h (Some y) q = ap Some (lower_second y x (due_below x l h y q))

pub either_due : {l m : List Test} → Alike l m → due (either l m) ≡ lower_due (due l) (due m)
unfolding due zip_with
either_due no_rows = refl
either_due (row x true true lows highs rest) = ap Some (lower_first x x (le_refl _))
either_due (row x true false {m = m} lows highs rest) = met_first x m highs (due m) refl
either_due (row x false true {l = l} lows highs rest) = met_second x l lows (due l) refl
either_due (row x false false lows highs rest) = either_due rest
