-- What the loop over the rounds up to an array's own keeps, and what it answers. Assumes nothing.
use Rattle.std.specs.Prelude.{Some, None, Ok, Err}
use mathlib.Core.Path.{◌≡◌, refl, sym, ap, ◌∙◌}
use mathlib.Core.Bool.{false, not}
use mathlib.Core.List.{List, [], ◌∷◌}
use Prim.Native.Nat.{ℕ, ◌+◌, ◌-◌, ◌<◌, ◌≤◌}
use native.Mathlib.Decide.{dec_lt}
use native.Mathlib.Omega.{arith}
use lib.ListN.{length, get_or, length-map}
use Rattle.refusals.specs.declared.Refusal.TheVariants.{Array}
use Rattle.refusals.specs.Due.{refuse, due, refused_or}
use Rattle.refusals.proofs.Dues.{due_second}
use Rattle.table.specs.Clauses.{Shape, IsTable}
use Rattle.table.specs.Check.{up_to, table_tests, table_refusal}
use Rattle.table.proofs.Checks.{too_small, inside, too_large}
use Rattle.table.proofs.Tables.{table_accepted}
use Rattle.grid.specs.Clauses.{grid_of}
use Rattle.planning.specs.Rounds.{Round, round_on, plan_rounds, plan_of}
use Rattle.planning.specs.Clauses.{RoundDone, Reached}
use Rattle.planning.proofs.Progressing.{round_is, more_rounds, all_rounds}
use Rattle.planning.proofs.Reaching.{reached_start, reached_step}
use Rattle.reasons.specs.declared.Explanation.{Explanation}
use Rattle.reasons.specs.Reason.{reason_of}
use Rattle.reasons.specs.Call.{round_at, reason_refusal, reason_answer}

-- as many arrays as rounds
pub arrays_are_rounds : (r c d : ℕ) (g : List ℕ) → length (plan_of r c d g).arrays ≡ length (plan_rounds r c d g)
unfolding plan_of
arrays_are_rounds r c d g = length-map (plan_rounds r c d g) (λ x. x.array)

-- what is due of an accepted table
module _ {r c d : ℕ} {g : List ℕ} (t : IsTable r c d g) (k : ℕ) where
  asked : reason_refusal r c d g k ≡ due (refuse Array (not (up_to (length (plan_of r c d g).arrays) k)) ∷ [])
  unfolding reason_refusal table_refusal
  asked = due_second (table_tests r c d g) _ (table_accepted t)

  pub has_array : 1 ≤ k → k ≤ length (plan_rounds r c d g) → reason_refusal r c d g k ≡ None
  unfolding due
  has_array h l = asked ∙ simp (inside (length (plan_of r c d g).arrays) k h (omega (arith, arrays_are_rounds r c d g)))

  pub no_array : up_to (length (plan_rounds r c d g)) k ≡ false → reason_refusal r c d g k ≡ Some Array
  unfolding due
  no_array h = asked ∙ simp (ap (λ (n : ℕ). up_to n k) (arrays_are_rounds r c d g) ∙ h)

  -- nothing is due: there is such an array
  pub asked_inside : reason_refusal r c d g k ≡ None → (1 ≤ k) × (k ≤ length (plan_rounds r c d g))
  asked_inside h = go (dec_lt k 1) (dec_lt (length (plan_rounds r c d g)) k)
    where
      refused : up_to (length (plan_rounds r c d g)) k ≡ false → ⊥
      refused e = let y = no_array e in let z : ◌≡◌ {A = ℕ} 0 1 = cc in omega arith

      go : Dec (k < 1) → Dec (length (plan_rounds r c d g) < k) → (1 ≤ k) × (k ≤ length (plan_rounds r c d g))
      go (yes a) b = absurd (refused (sym (too_small (length (plan_rounds r c d g)) k a)))
      go (no a) (yes b) = absurd (refused (sym (too_large (length (plan_rounds r c d g)) k b)))
      go (no a) (no b) = (omega arith, omega arith)

-- where the loop stands: the rounds before round k are done, and none of them was that of the array
pub record Passed (r c d : ℕ) (g : List ℕ) (array w k : ℕ) (e : List ℕ) : Type 0 where
  pub done : ℕ
  pub next : done + 1 ≡ k
  pub reached : Reached r c d g w done e
  pub not_yet : 0 < array → k ≤ array

pub passed_start : {r c d : ℕ} {g : List ℕ} (array : ℕ) {e : List ℕ} → IsTable r c d g → e ≡ grid_of r c g → Passed r c d g array d 1 e
passed_start array {e} t is = record { done = 0; next = refl; reached = reached_start e t is; not_yet = λ h. omega arith }

module _ {r c d : ℕ} {g : List ℕ} {array w k : ℕ} {e : List ℕ} (o : Passed r c d g array w k e) where
  module _ (n : w ≡ 0 → ⊥) where
    wp : 0 < w
    wp = omega arith

    -- the array's own round
    pub own_round : k ≡ array → {x : Explanation} → ((y : List ℕ) → Shape r c y → e ≡ grid_of r c y → x ≡ reason_of r c (round_on r c w y))
        → Ok x ≡ reason_answer r c d g array
    unfolding reason_answer
    own_round q {x} h =
        let p = o.reached.progress in
        let z : Round = record { left = 0; table = []; array = record { weight = 0; counts = [] } } in
        let at : array - 1 ≡ o.done = omega (arith, o.next) in
        let round : round_at r c d g array ≡ round_on r c w o.reached.rest = ap (λ (i : ℕ). get_or (plan_rounds r c d g) i z) at ∙ round_is p wp z in
        let free : reason_refusal r c d g array ≡ None = has_array o.reached.table array (omega (arith, o.next)) (omega (arith, o.next, more_rounds p wp)) in
        ap Ok (h o.reached.rest p.shape o.reached.grid ∙ sym (ap (reason_of r c) round))
        ∙ sym (ap (refused_or Err (Ok (reason_of r c (round_at r c d g array)))) free)

    module _ {a : List ℕ} {x : ℕ} {e' : List ℕ} (u : RoundDone w e a x e') where
      pub passed_step : {v : ℕ} → v + x ≡ w → (k ≡ array → ⊥) → k ≤ array → Passed r c d g array v (k + 1) e'
      passed_step left n h = record { done = o.done + 1; next = omega (arith, o.next); reached = reached_step o.reached wp u left; not_yet = λ p. omega arith }

  refused : up_to (length (plan_rounds r c d g)) array ≡ false → Err Array ≡ reason_answer r c d g array
  unfolding reason_answer
  refused h = sym (ap (refused_or Err (Ok (reason_of r c (round_at r c d g array)))) (no_array o.reached.table array h))

  -- no weight is left, and the array's own round is still to come
  pub rounds_over : w ≡ 0 → k ≤ array → Err Array ≡ reason_answer r c d g array
  rounds_over z h = refused (sym (too_large _ array (omega (arith, o.next, all_rounds z o.reached.progress))))

  -- there is no array 0
  pub none_asked : array < k → Err Array ≡ reason_answer r c d g array
  none_asked h = refused (sym (too_small _ array (go (dec_lt 0 array))))
    where
      go : Dec (0 < array) → array < 1
      go (yes p) = absurd (omega (arith, o.not_yet p))
      go (no p) = omega arith
