-- The two calls of a walk (specification, "The walk" and "Refusals"). Assumes nothing.
use Rattle.std.specs.Prelude.{Bool, not, ◌&&◌, List, [], ◌∷◌, ◌++◌, ℕ, ◌*◌, length, leb, ltb, Option, Some, None, Result, Ok, Err}
use Rattle.refusals.specs.declared.Refusal.{Refusal}
use Rattle.refusals.specs.declared.Refusal.TheVariants.{LargeCell, Buffer, WalkSize, NotRounding}
use Rattle.refusals.specs.Numbers.{number_of}
use Rattle.refusals.specs.Due.{Test, refuse, due, refused_or, after}
use Rattle.table.specs.Check.{cells_within, size_test, denominator_test, count_test}
use Rattle.is_rounding.specs.Rounding.{two_ways, is_rounding}
use Rattle.next_rounding.specs.Next.{next_rounding, written_if}
use Rattle.walk.specs.declared.Step.{Step}
use Rattle.walk.specs.declared.Step.TheVariants.{Next, Last}

-- a table for a walk has at most 4 rows and 4 columns
abbrev pub max_side : ℕ
max_side = 4

abbrev pub walk_within : ℕ → ℕ → Bool
walk_within r c = leb r max_side && leb c max_side

-- 15: r or c above 4
abbrev pub walk_size_test : ℕ → ℕ → Test
walk_size_test r c = refuse WalkSize (not (walk_within r c))

-- the refusals of the table: 1, 15, 2, 3 and 4
abbrev pub walk_tests : ℕ → ℕ → ℕ → List ℕ → List Test
walk_tests r c d g =
    size_test r c ∷ walk_size_test r c ∷ denominator_test d ∷ count_test (length g) (r * c) ∷ refuse LargeCell (not (cells_within d g)) ∷ []

-- 7: a buffer of `room` counts is shorter than an array
abbrev pub room_test : ℕ → ℕ → ℕ → Test
room_test r c room = refuse Buffer (ltb room (r * c))

-- the first call: those of the table, and 7
abbrev pub first_tests : ℕ → ℕ → ℕ → List ℕ → ℕ → List Test
first_tests r c d g room = walk_tests r c d g ++ (room_test r c room ∷ [])

unfoldable pub first_refusal : ℕ → ℕ → ℕ → List ℕ → ℕ → Option Refusal
first_refusal r c d g room = due (first_tests r c d g room)

-- the second, which is handed the array n: those of the table; 16, n is no controlled rounding of it, as where n has another length; 7
abbrev pub array_tests : ℕ → ℕ → ℕ → List ℕ → List ℕ → ℕ → List Test
array_tests r c d g n room = refuse NotRounding (not (is_rounding (two_ways r c) d g n)) ∷ room_test r c room ∷ []

abbrev pub next_tests : ℕ → ℕ → ℕ → List ℕ → List ℕ → ℕ → List Test
next_tests r c d g n room = walk_tests r c d g ++ array_tests r c d g n room

unfoldable pub next_refusal : ℕ → ℕ → ℕ → List ℕ → List ℕ → ℕ → Option Refusal
next_refusal r c d g n room = due (next_tests r c d g n room)

-- what it does where nothing is due: it writes the array that follows, if one does
abbrev pub step_of : Option (List ℕ) → Step
step_of (Some k) = Next
step_of None = Last

-- its answer: that, or what is due
unfoldable pub next_answer : ℕ → ℕ → ℕ → List ℕ → List ℕ → ℕ → Result Step Refusal
next_answer r c d g n room = refused_or Err (Ok (step_of (next_rounding r c d g n))) (next_refusal r c d g n room)

-- what it leaves in a buffer: the array that follows and what stood beyond it, or the buffer as it was
unfoldable pub next_left : ℕ → ℕ → ℕ → List ℕ → List ℕ → List ℕ → List ℕ
next_left r c d g n buffer = after (next_refusal r c d g n (length buffer)) (written_if (next_rounding r c d g n) buffer) buffer

-- the number that each answer stands for: 0 for an array that was written, 255 where the array handed in was the last, else the refusal's
abbrev pub step_number : Result Step Refusal → ℕ
step_number (Ok Next) = 0
step_number (Ok Last) = 255
step_number (Err x) = number_of x
