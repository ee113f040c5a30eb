-- The ways through the call "plan". Assumes nothing.
use Rattle.std.specs.Prelude.{Option, Some, None, Result, Ok, Err}
use mathlib.Core.Path.{◌≡◌, refl, sym, ap, ◌∙◌}
use mathlib.Core.List.{List}
use Prim.Native.Nat.{ℕ, ◌≤◌, ◌<◌}
use native.Mathlib.Nat.{mul-le-mul}
use native.Mathlib.Omega.{arith}
use lib.ListN.{length}
use mir.Val.{Fits}
use mir.Syntax.{w32}
use Rattle.base.specs.Buffers.{written}
use Rattle.refusals.specs.declared.Refusal.{Refusal}
use Rattle.refusals.specs.declared.Refusal.TheVariants.{Buffer}
use Rattle.refusals.specs.Due.{refused_or, after}
use Rattle.refusals.proofs.Dues.{first_none}
use Rattle.refusals.proofs.Numbering.{number_small}
use Rattle.table.specs.Clauses.{IsTable, check_of}
use Rattle.table.specs.Check.{table_tests, table_refusal}
use Rattle.table.specs.declared.Table.{Table}
use Rattle.table.proofs.Checks.{passed_all}
use Rattle.table.proofs.Sizes.{few_cells}
use Rattle.table.proofs.Tables.{table_accepted, taken, not_taken, refused_table, refused_buffer, refused_nothing}
use Rattle.weighted_arrays.specs.Plan.{Plan}
use Rattle.form.specs.Form.{plan_length, encode}
use Rattle.form.specs.Clauses.{Bounded}
use Rattle.form.proofs.Layouts.{plan_most}
use Rattle.writing.specs.Clauses.{buffered_plan, Writable}
use Rattle.plan.specs.Call.{plan_bytes, plan_refusal, plan_answer, PlanAnswers, Apart}
use Rattle.plan.specs.Clauses.{AllGathered}
use Rattle.plan.proofs.Planning.{promised, gathered_sizes, gathered_length, plan_held}

-- the answer and the buffer, by what is due
module _ {r c d : ℕ} {g old : List ℕ} where
  refused_so : {x : Refusal} → plan_refusal r c d g (length old) ≡ Some x → PlanAnswers r c d g old (Err x) old
  unfolding plan_answer after
  refused_so h = record { answer = rw h refl; buffer = rw h refl }

  accepted_so : {n : ℕ} {new : List ℕ} → plan_refusal r c d g (length old) ≡ None → n ≡ length (plan_bytes r c d g) → new ≡ written (plan_bytes r c d g) old
      → PlanAnswers r c d g old (Ok n) new
  unfolding plan_answer after
  accepted_so h e w = record { answer = rw h (ap Ok e); buffer = rw h w }

-- an accepted table whose rounds are done
module _ {r c d : ℕ} {g : List ℕ} {k : ℕ} {weights counts : List ℕ} (a : AllGathered r c d g k weights counts) where
  t : IsTable r c d g
  t = a.rounds.reached.table

  pub length_ready : Bounded r c k
  length_ready = (gathered_sizes a).0

  module _ {n : ℕ} (e : n ≡ plan_length r c k) where
    n_is : n ≡ length (plan_bytes r c d g)
    n_is = e ∙ sym (gathered_length a)

    pub length_fits : Fits w32 n
    length_fits = record { fits = omega (arith, e, plan_most length_ready) }

    pub too_short : {old : List ℕ} → length old < n → PlanAnswers r c d g old (Err Buffer) old
    unfolding plan_refusal
    too_short {old} h = refused_so (refused_buffer r c d g (length old) _ (table_accepted t) (omega (arith, n_is)))

    pub long_enough : {d' : ℕ} {old new : List ℕ} → n ≤ length old → d' ≡ d → new ≡ written (encode (buffered_plan (record { rows = r; columns = c; arrays = k; denominator = d' }) g weights counts)) old
        → PlanAnswers r c d g old (Ok n) new
    unfolding plan_refusal plan_bytes
    long_enough {old = old} h same w = accepted_so (refused_nothing r c d g (length old) _ (table_accepted t) (omega (arith, n_is))) n_is
        (rw same at w ∙ ap (λ (p : Plan). written (encode p) old) (plan_held a))

  pub writable : {n d' : ℕ} {plan : List ℕ} → n ≡ plan_length r c k → n ≤ length plan
      → Writable (record { rows = r; columns = c; arrays = k; denominator = d' }) g weights counts plan
  writable e h = record {
    shape = t.shape;
    some_arrays = (gathered_sizes a).1;
    arrays = (gathered_sizes a).0.arrays;
    weighed = omega (arith, a.rounds.weights_len, (gathered_sizes a).0.arrays);
    counted = omega (arith, a.rounds.counts_len, mul-le-mul (gathered_sizes a).0.arrays (few_cells t.shape));
    room = omega arith;
  }

-- the call above it
module _ (r c d : ℕ) (g : List ℕ) where
  pub refused : {x : Refusal} {old : List ℕ} → check_of r c d g ≡ Err x → PlanAnswers r c d g old (Err x) old
  unfolding plan_refusal
  refused {x} {old} h = refused_so (refused_table r c d g (length old) _ x (not_taken r c d g refl x h))

  pub answered : {t : Table} → check_of r c d g ≡ Ok t → {old new : List ℕ} {p : Result ℕ Refusal} → PlanAnswers t.rows t.columns t.denominator g old p new → PlanAnswers r c d g old p new
  answered {t} h f = rw (taken r c d g refl t h).sizes at f

pub number_apart : {r c d : ℕ} {g old new : List ℕ} {p : Result ℕ Refusal} → PlanAnswers r c d g old p new → Apart p
unfolding plan_answer plan_refusal table_refusal
number_apart {r} {c} {d} {g} {old} f = rw f.answer (go (plan_refusal r c d g (length old)) refl)
  where
    go : (o : Option Refusal) → plan_refusal r c d g (length old) ≡ o → Apart (refused_or Err (Ok (length (plan_bytes r c d g))) o)
    go (Some x) q = number_small x
    go None q = (promised (passed_all r c d g (first_none (table_tests r c d g) _ q))).len_low
