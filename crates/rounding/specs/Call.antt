-- The call "rounding" (specification, "Refusals"). Assumes nothing.
use Rattle.std.specs.Prelude.{List, [], ◌∷◌, ◌++◌, ℕ, ◌*◌, ltb, Option}
use Rattle.refusals.specs.declared.Refusal.{Refusal}
use Rattle.refusals.specs.declared.Refusal.TheVariants.{Buffer}
use Rattle.refusals.specs.Due.{Test, refuse, due}
use Rattle.table.specs.Check.{table_tests}

-- the refusals of the call, with a buffer of `room` counts: those of the table, 1 to 4; 7, the buffer is shorter than the array
abbrev pub round_tests : ℕ → ℕ → ℕ → List ℕ → ℕ → List Test
round_tests r c d g room = table_tests r c d g ++ (refuse Buffer (ltb room (r * c)) ∷ [])

unfoldable pub round_refusal : ℕ → ℕ → ℕ → List ℕ → ℕ → Option Refusal
round_refusal r c d g room = due (round_tests r c d g room)
