-- Laws on loops that store one after another from the start of a buffer on, whatever kind of numbers it holds. Assumes nothing.
use mathlib.Core.Path.{◌≡◌, refl, sym, ap, ap₂, ◌∙◌}
use mathlib.Core.List.{List, [], ◌∷◌, ◌++◌}
use Prim.Native.Nat.{ℕ, zero, suc, ◌+◌, ◌<◌, ◌≤◌}
use native.Mathlib.Omega.{arith}
use lib.ListN.{length, set, drop, length-append, length-drop}
use Rattle.base.specs.Lists.{tabulate}
use Rattle.base.specs.Buffers.{written}
use Rattle.base.proofs.Lists.{length_tabulate}

-- the first i places hold f 0, .., f (i - 1), and the others what `old` holds
pub record Stored {A : Type 0} (f : ℕ → A) (old new : List A) (i : ℕ) : Type 0 where
  pub is : new ≡ tabulate i f ++ drop i old

pub stored_none : {A : Type 0} (f : ℕ → A) (old : List A) → Stored f old old 0
unfolding tabulate
stored_none f old = record { is = refl }

set_next : {A : Type 0} (i : ℕ) (f : ℕ → A) (old : List A) → i < length old → set (tabulate i f ++ drop i old) i (f i) ≡ tabulate (suc i) f ++ drop (suc i) old
unfolding tabulate
set_next i f [] h = absurd (omega arith)
set_next zero f (x ∷ old) h = refl
set_next (suc i) f (x ∷ old) h = ap (λ l. f 0 ∷ l) (set_next i (λ k. f (suc k)) old (omega arith))

module _ {A : Type 0} {f : ℕ → A} {old new : List A} {i : ℕ} (s : Stored f old new i) where
  pub stored_more : {x : A} → x ≡ f i → i < length old → Stored f old (set new i x) (i + 1)
  stored_more e h = let n : suc i ≡ i + 1 = omega arith in record {
    is = ap₂ (λ l y. set l i y) s.is e ∙ set_next i f old h ∙ ap (λ (k : ℕ). tabulate k f ++ drop k old) n;
  }

  pub stored_length : i ≤ length old → length new ≡ length old
  stored_length h = ap length s.is ∙ length-append (tabulate i f) (drop i old) ∙ omega (arith, length_tabulate i f, length-drop i old)

  pub stored_all : {n : ℕ} → i ≤ n → n ≤ i → new ≡ written (tabulate n f) old
  stored_all {n} a b =
      let e : i ≡ n = omega arith in
      s.is ∙ ap (λ (k : ℕ). tabulate k f ++ drop k old) e ∙ ap (λ (k : ℕ). tabulate n f ++ drop k old) (sym (length_tabulate n f))
