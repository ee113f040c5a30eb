-- Asking which entry set the weight of an array (specification, "Which entry set the weight" and "Refusals": 1, 2, 3, 4, 14). Assumes nothing.
use Rattle.std.specs.Prelude.{not, List, [], ◌∷◌, ◌++◌, ℕ, ◌-◌, length, get_or, Option, Result, Ok, Err}
use Rattle.refusals.specs.declared.Refusal.{Refusal}
use Rattle.refusals.specs.declared.Refusal.TheVariants.{Array}
use Rattle.refusals.specs.Due.{Test, refuse, due, refused_or}
use Rattle.table.specs.Check.{up_to, table_tests}
use Rattle.planning.specs.Rounds.{Round, plan_rounds, plan_of}
use Rattle.reasons.specs.declared.Explanation.{Explanation}
use Rattle.reasons.specs.Reason.{reason_of}

-- round k of a table's plan, counted from 1, and where there is none an empty one
abbrev pub round_at : ℕ → ℕ → ℕ → List ℕ → ℕ → Round
round_at r c d g k = get_or (plan_rounds r c d g) (k - 1) (record { left = 0; table = []; array = record { weight = 0; counts = [] } })

-- the refusals of asking for array k: those of the table, 1 to 4; 14, k is 0 or above the number of arrays
abbrev pub reason_tests : ℕ → ℕ → ℕ → List ℕ → ℕ → List Test
reason_tests r c d g k = table_tests r c d g ++ (refuse Array (not (up_to (length (plan_of r c d g).arrays) k)) ∷ [])

unfoldable pub reason_refusal : ℕ → ℕ → ℕ → List ℕ → ℕ → Option Refusal
reason_refusal r c d g k = due (reason_tests r c d g k)

-- the answer: the reason of round k, or what is due
unfoldable pub reason_answer : ℕ → ℕ → ℕ → List ℕ → ℕ → Result Explanation Refusal
reason_answer r c d g k = refused_or Err (Ok (reason_of r c (round_at r c d g k))) (reason_refusal r c d g k)
