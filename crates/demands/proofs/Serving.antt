-- The plan of every accepted table opens, and every list of draws on it is held to the claim. Assumes nothing.
use Rattle.std.specs.Prelude.{None, Result, Ok}
use mathlib.Core.Path.{◌≡◌, refl, ap, ◌∙◌}
use mathlib.Core.List.{List, [], ◌∷◌}
use Prim.Native.Nat.{ℕ, ◌≤◌}
use lib.ListN.{length, take}
use lib.Dec.{ltb}
use borrow.Author.Tests.{le-ltb}
use Rattle.base.proofs.Buffers.{written_front}
use Rattle.refusals.specs.declared.Refusal.TheVariants.{Buffer}
use Rattle.refusals.specs.Due.{refuse, due, after}
use Rattle.refusals.proofs.Dues.{due_second}
use Rattle.table.specs.Check.{table_tests, table_refusal}
use Rattle.plan.specs.Call.{plan_bytes, plan_refusal, plan_answer, PlanAnswers}
use Rattle.plan.proofs.Planning.{promised}
use Rattle.table.proofs.Checks.{passed_all}
use Rattle.demands.specs.Plans.{Served}
use Rattle.demands.proofs.Campaigns.{claim}
use Rattle.refusals.specs.declared.Refusal.{Refusal}

module _ (r c d : ℕ) (g old new : List ℕ) (p : Result ℕ Refusal) (t : table_refusal r c d g ≡ None) (room : length (plan_bytes r c d g) ≤ length old)
    (a : PlanAnswers r c d g old p new) where
  none_due : plan_refusal r c d g (length old) ≡ None
  unfolding plan_refusal table_refusal due
  none_due = due_second (table_tests r c d g) (refuse Buffer (ltb (length old) (length (plan_bytes r c d g))) ∷ []) t ∙ simp (le-ltb _ _ room)

  answered : p ≡ Ok (length (plan_bytes r c d g))
  unfolding plan_answer
  answered = a.answer ∙ rw none_due

  bytes : take (length (plan_bytes r c d g)) new ≡ plan_bytes r c d g
  unfolding after
  bytes = ap (take (length (plan_bytes r c d g))) (a.buffer ∙ rw none_due) ∙ written_front (plan_bytes r c d g) old refl

  pub served : Served r c d g p new
  served =
      let promises = promised (passed_all r c d g t) in
      record {
        size = length (plan_bytes r c d g);
        returned = answered;
        opens = rw bytes promises.opening;
        plan = rw bytes promises.decodes;
        few = rw (bytes, promises.decodes) promises.few;
        campaigns = rw bytes (claim (plan_bytes r c d g) promises.opening);
      }
