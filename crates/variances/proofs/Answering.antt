-- What the call answers and writes, by the tests on its way. Assumes nothing.
use Rattle.std.specs.Prelude.{Result, Ok, Err, ⊤}
use mathlib.Core.Path.{◌≡◌, ap, ◌∙◌}
use mathlib.Core.List.{List, ◌++◌}
use Prim.Native.Nat.{ℕ, ◌<◌, ◌≤◌}
use lib.IntN.{ℤ}
use lib.ListN.{length, drop}
use Rattle.refusals.specs.declared.Refusal.{Refusal}
use Rattle.refusals.specs.declared.Refusal.TheVariants.{Buffer}
use Rattle.refusals.specs.Due.{Answers}
use Rattle.form.specs.declared.Sizes.{Sizes}
use Rattle.form.specs.Form.{decode}
use Rattle.opening.specs.Open.{open_answer, part_refusal}
use Rattle.plan_parts.proofs.Telling.{not_open, too_short, told}
use Rattle.variances.specs.declared.Numerators.{Numerators}
use Rattle.variances.specs.Variance.{numerators}
use Rattle.variances.specs.Clauses.{numerators_of, Measured}

module _ (b : List ℕ) (old : List ℤ) where
  abbrev Answered : Result ⊤ Refusal → List ℤ → Type 0
  Answered r new = Answers (part_refusal b 3 (length old)) (numerators (decode b) ++ drop 3 old) old r new

  pub variances_refused : {x : Refusal} → open_answer b ≡ Err x → Answered (Err x) old
  variances_refused e = not_open b old 3 (length old) e

  module _ {s : Sizes} (e : open_answer b ≡ Ok s) where
    pub variances_short : length old < 3 → Answered (Err Buffer) old
    variances_short h = too_short b old 3 (length old) e h

    pub variances_told : 3 ≤ length old → {n : Numerators} {new : List ℤ} → Measured (decode b) n → new ≡ numerators_of n ++ drop 3 old → Answered (Ok tt) new
    variances_told h m w = told b old 3 (length old) e h (w ∙ ap (λ l. l ++ drop 3 old) m.is)
