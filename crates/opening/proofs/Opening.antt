-- What opening a plan answers, and what an opened plan says. Assumes nothing.
use Rattle.std.specs.Prelude.{Option, Some, None, Ok, Err}
use mathlib.Core.Path.{◌≡◌, refl, sym, ◌∙◌}
use mathlib.Core.Bool.{Bool, true, false, not}
use mathlib.Core.List.{List}
use Prim.Native.Nat.{ℕ, ◌*◌}
use native.Mathlib.Omega.{arith}
use mir.Val.{Fits}
use mir.Syntax.{w64}
use borrow.Author.Tests.{not-true, not-false}
use Rattle.refusals.specs.declared.Refusal.{Refusal}
use Rattle.refusals.specs.declared.Refusal.TheVariants.{Layout, Content}
use Rattle.refusals.specs.Due.{due, refused_or}
use Rattle.refusals.proofs.Dues.{not_here, not_later}
use Rattle.form.specs.declared.Sizes.{Sizes}
use Rattle.form.specs.Form.{sizes_of, laid_out, decode}
use Rattle.opening.specs.Open.{consistent, open_refusal, Opens, open_answer}
use Rattle.reading.specs.Clauses.{Sized}
use Rattle.reading.proofs.Sizing.{sized_fits}

pub not_laid : (b : List ℕ) → laid_out b ≡ false → open_answer b ≡ Err Layout
unfolding open_answer open_refusal due
not_laid b h = simp h

module _ {s : Sizes} {b : List ℕ} (z : Sized s b) {x : Bool} (e : x ≡ consistent (decode b)) where
  pub not_consistent : not x ≡ true → open_answer b ≡ Err Content
  unfolding open_answer open_refusal due
  not_consistent h = simp (z.laid_out_is, sym e ∙ not-true x h)

  pub plan_opened : not x ≡ false → open_answer b ≡ Ok s
  unfolding open_answer open_refusal due
  plan_opened h = simp (z.laid_out_is, sym e ∙ not-false x h, z.sizes)

-- what a plan that opens meets
module _ (b : List ℕ) (h : Opens b) where
  pub opens_layout : laid_out b ≡ true
  unfolding open_refusal
  opens_layout = not-false _ (not_here _ _ h)

  pub opens_content : consistent (decode b) ≡ true
  unfolding open_refusal
  opens_content = not-false _ (not_here _ _ (not_later _ _ h))

pub opens_by : (b : List ℕ) → laid_out b ≡ true → consistent (decode b) ≡ true → Opens b
unfolding open_refusal due
opens_by b h l = simp (h, l)

-- what an answer with a plan says
pub record IsOpen (s : Sizes) (b : List ℕ) : Type 0 where
  pub sizes : s ≡ sizes_of b
  pub opens : Opens b
  pub laid_out_is : laid_out b ≡ true

-- an answer tells what is due
module _ (b : List ℕ) where
  pub is_open : (s : Sizes) → open_answer b ≡ Ok s → IsOpen s b
  unfolding open_answer
  is_open s e = go (open_refusal b) refl e
    where
      go : (o : Option Refusal) → open_refusal b ≡ o → refused_or Err (Ok (sizes_of b)) o ≡ Ok s → IsOpen s b
      go None p q = record { sizes = cc; opens = p; laid_out_is = opens_layout b p }
      go (Some x) p q = absurd (let z : ◌≡◌ {A = ℕ} 0 1 = cc in omega arith)

  pub is_refused : (x : Refusal) → open_answer b ≡ Err x → open_refusal b ≡ Some x
  unfolding open_answer
  is_refused x e = go (open_refusal b) refl e
    where
      go : (o : Option Refusal) → open_refusal b ≡ o → refused_or Err (Ok (sizes_of b)) o ≡ Err x → open_refusal b ≡ Some x
      go None p q = absurd (let z : ◌≡◌ {A = ℕ} 0 1 = cc in omega arith)
      go (Some y) p q = p ∙ cc

  pub opens_answer : Opens b → open_answer b ≡ Ok (sizes_of b)
  unfolding open_answer
  opens_answer h = rw h

  pub opened_sized : (s : Sizes) → open_answer b ≡ Ok s → Sized s b
  opened_sized s e = let o = is_open s e in record { laid_out_is = o.laid_out_is; sizes = o.sizes }

  pub sizes_product : (s : Sizes) → open_answer b ≡ Ok s → Fits w64 (s.rows * s.columns)
  sizes_product s e = sized_fits (opened_sized s e)
