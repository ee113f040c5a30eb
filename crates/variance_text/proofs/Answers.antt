-- What is printed of a plan, by what opening it answers. Assumes nothing.
use Rattle.std.specs.Prelude.{Some, Ok, Err}
use mathlib.Core.Path.{◌≡◌, refl, ap, ◌∙◌}
use mathlib.Core.Bool.{true, false}
use mathlib.Core.List.{List, ◌++◌}
use Prim.Native.Nat.{ℕ, ◌≤◌}
use lib.ListN.{length, take}
use Rattle.refusals.specs.declared.Refusal.{Refusal}
use Rattle.refusals.specs.Numbers.{number_of}
use Rattle.form.specs.declared.Sizes.{Sizes}
use Rattle.form.specs.Form.{decode}
use Rattle.opening.specs.Open.{open_refusal, Opens, open_answer}
use Rattle.opening.proofs.Opening.{is_open, is_refused}
use Rattle.variances.specs.declared.Numerators.{Numerators}
use Rattle.variances.specs.Variance.{numerators}
use Rattle.variances.specs.Clauses.{numerators_of, Measured}
use Rattle.printing.specs.Lines.{decimal, refused}
use Rattle.printing.specs.Write.{Wrote}
use Rattle.printing.proofs.Writes.{wrote_inside, wrote_part}
use Rattle.variance_text.specs.declared.Printed.{Printed}
use Rattle.variance_text.specs.VarianceText.{rest_of_line, plan_text, goes_on}
use Rattle.variance_text.specs.Write.{Prints}

module _ (k : ℕ) (b : List ℕ) where
  text_open : Opens b → decimal k ++ rest_of_line (numerators (decode b)) ≡ plan_text k b
  unfolding plan_text
  text_open h = rw h refl

  on_open : Opens b → true ≡ goes_on b
  unfolding goes_on
  on_open h = rw h refl

  text_refused : (x : Refusal) → open_refusal b ≡ Some x → refused (number_of x) ≡ plan_text k b
  unfolding plan_text
  text_refused x h = rw h refl

  on_refused : (x : Refusal) → open_refusal b ≡ Some x → false ≡ goes_on b
  unfolding goes_on
  on_refused x h = rw h refl

  module _ {out after : List ℕ} {r : ℕ} where
    pub refusal_printed : {x : Refusal} → open_answer b ≡ Err x → Wrote out 0 (refused (number_of x)) after r → Prints k b out after (record { written = r; go_on = false })
    refusal_printed {x} e w =
        let d = is_refused b x e in
        record { wrote = rw (text_refused x d) at w; goes_on_is = on_refused x d }

    pub line_printed : {s : Sizes} → open_answer b ≡ Ok s → {n : Numerators} → Measured (decode b) n → Wrote out 0 (decimal k ++ rest_of_line (numerators_of n)) after r
        → Prints k b out after (record { written = r; go_on = true })
    line_printed {s} e {n} m w =
        let d = (is_open b s e).opens in
        let q : decimal k ++ rest_of_line (numerators_of n) ≡ plan_text k b = ap (λ l. decimal k ++ rest_of_line l) m.is ∙ text_open d in
        record { wrote = rw q at w; goes_on_is = on_open d }

-- what was printed lies inside the buffer
module _ {k : ℕ} {b out after : List ℕ} {r : Printed} (p : Prints k b out after r) where
  pub prints_inside : r.written ≤ length after
  prints_inside = wrote_inside p.wrote

  pub prints_part : r.written ≡ length (take r.written after)
  prints_part = wrote_part p.wrote
