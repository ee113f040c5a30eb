-- The call "plan" (specification, "Stored plan, form 1" and "Refusals": 1, 2, 3, 4, 7). Assumes nothing.
use Rattle.std.specs.Prelude.{◌≡◌, List, [], ◌∷◌, ◌++◌, ℕ, ◌<◌, ◌≤◌, length, ltb, Option, Result, Ok, Err}
use Rattle.base.specs.Buffers.{written}
use Rattle.refusals.specs.Numbers.{number_of}
use Rattle.refusals.specs.declared.Refusal.{Refusal}
use Rattle.refusals.specs.declared.Refusal.TheVariants.{Buffer}
use Rattle.refusals.specs.Due.{Test, refuse, due, refused_or, after}
use Rattle.table.specs.Check.{table_tests}
use Rattle.form.specs.Form.{min_length, encode}
use Rattle.planning.specs.Rounds.{plan_of}

-- the stored plan of a table
unfoldable pub plan_bytes : ℕ → ℕ → ℕ → List ℕ → List ℕ
plan_bytes r c d g = encode (plan_of r c d g)

-- the refusals of the call, with a buffer of `room` bytes: those of the table, 1 to 4; 7, the buffer is shorter than the plan
-- (one of just its length is enough)
abbrev pub plan_tests : ℕ → ℕ → ℕ → List ℕ → ℕ → List Test
plan_tests r c d g room = table_tests r c d g ++ (refuse Buffer (ltb room (length (plan_bytes r c d g))) ∷ [])

unfoldable pub plan_refusal : ℕ → ℕ → ℕ → List ℕ → ℕ → Option Refusal
plan_refusal r c d g room = due (plan_tests r c d g room)

-- the answer: the plan's length, or what is due
unfoldable pub plan_answer : ℕ → ℕ → ℕ → List ℕ → ℕ → Result ℕ Refusal
plan_answer r c d g room = refused_or Err (Ok (length (plan_bytes r c d g))) (plan_refusal r c d g room)

-- what the call is held to, with a buffer that holds `old`: its answer p, and what the buffer holds afterwards.
-- A refusal leaves the buffer as it was.
pub record PlanAnswers (r c d : ℕ) (g old : List ℕ) (p : Result ℕ Refusal) (new : List ℕ) : Type 0 where
  pub answer : p ≡ plan_answer r c d g (length old)
  pub buffer : new ≡ after (plan_refusal r c d g (length old)) (written (plan_bytes r c d g) old) old

-- the number returned: the length (30 or more), or the refusal's
abbrev pub planned_number : Result ℕ Refusal → ℕ
planned_number (Ok n) = n
planned_number (Err x) = number_of x

-- the number tells which of the two it is: a length is 30 or more, and no refusal's number is
abbrev pub Apart : Result ℕ Refusal → Type 0
Apart (Ok n) = min_length ≤ n
Apart (Err x) = number_of x < min_length
