-- The ways through asking for a reason. Assumes nothing.
use Rattle.std.specs.Prelude.{Result, Ok, Err}
use mathlib.Core.Path.{◌≡◌, refl, sym, ap}
use mathlib.Core.List.{List}
use Prim.Native.Nat.{ℕ}
use Rattle.refusals.specs.declared.Refusal.{Refusal}
use Rattle.refusals.specs.Due.{refused_or}
use Rattle.refusals.proofs.Dues.{due_first}
use Rattle.table.specs.declared.Table.{Table}
use Rattle.table.specs.Clauses.{check_of}
use Rattle.table.specs.Check.{table_tests, table_refusal}
use Rattle.table.proofs.Tables.{taken, not_taken}
use Rattle.reasons.specs.declared.Explanation.{Explanation}
use Rattle.reasons.specs.Reason.{reason_of}
use Rattle.reasons.specs.Call.{round_at, reason_refusal, reason_answer}

module _ (r c d : ℕ) (g : List ℕ) where
  pub table_refused : (array : ℕ) {x : Refusal} → check_of r c d g ≡ Err x → Err x ≡ reason_answer r c d g array
  unfolding reason_answer reason_refusal table_refusal
  table_refused array {x} h = sym (ap (refused_or Err (Ok (reason_of r c (round_at r c d g array)))) (due_first (table_tests r c d g) _ x (not_taken r c d g refl x h)))

  pub asked : {t : Table} → check_of r c d g ≡ Ok t → (array : ℕ) {x : Result Explanation Refusal} → x ≡ reason_answer t.rows t.columns t.denominator g array → x ≡ reason_answer r c d g array
  asked {t} h array f = rw (taken r c d g refl t h).sizes at f
