-- The numbers of a reason, and the call that writes them (specification, "Which entry set the weight" and "Refusals": 1, 2, 3, 4, 14, 7). Assumes nothing.
use Rattle.std.specs.Prelude.{List, [], ◌∷◌, ◌++◌, ℕ, ltb, Option, Result, Ok, Err}
use Rattle.refusals.specs.declared.Refusal.{Refusal}
use Rattle.refusals.specs.declared.Refusal.TheVariants.{Buffer}
use Rattle.refusals.specs.Numbers.{number_of}
use Rattle.refusals.specs.Due.{Test, refuse, due}
use Rattle.reasons.specs.declared.Entry.{Entry}
use Rattle.reasons.specs.declared.Entry.TheVariants.{Cell, RowTotal, ColumnTotal, GrandTotal}
use Rattle.reasons.specs.declared.Direction.{Direction}
use Rattle.reasons.specs.declared.Direction.TheVariants.{Down, Up, AllWhole}
use Rattle.reasons.specs.declared.Explanation.{Explanation}
use Rattle.reasons.specs.Call.{reason_tests}

-- the numbers of an entry: its kind (1 cell, 2 row total, 3 column total, 4 grand total), its row and its column, 0 where the kind has none
abbrev pub entry_numbers : Entry → List ℕ
entry_numbers (Cell i j) = 1 ∷ i ∷ j ∷ []
entry_numbers (RowTotal i) = 2 ∷ i ∷ 0 ∷ []
entry_numbers (ColumnTotal j) = 3 ∷ 0 ∷ j ∷ []
entry_numbers GrandTotal = 4 ∷ 0 ∷ 0 ∷ []

-- the number of a direction: 0 all whole, 1 down, 2 up
abbrev pub direction_number : Direction → ℕ
direction_number AllWhole = 0
direction_number Down = 1
direction_number Up = 2

-- the numbers of a reason: those of its entry, and of the direction; none of a refusal
abbrev pub reason_numbers : Result Explanation Refusal → List ℕ
reason_numbers (Ok x) = entry_numbers x.entry ++ (direction_number x.direction ∷ [])
reason_numbers (Err x) = []

-- the number that each reply stands for: 0 for a reason, else the refusal's
abbrev pub reply_number : Result Explanation Refusal → ℕ
reply_number (Ok x) = 0
reply_number (Err x) = number_of x

-- 7: a buffer has no room for four numbers
abbrev pub room_tests : ℕ → List Test
room_tests room = refuse Buffer (ltb room 4) ∷ []

-- the refusals of writing the numbers into a buffer of `room`: those of asking, and then 7
abbrev pub reply_tests : ℕ → ℕ → ℕ → List ℕ → ℕ → ℕ → List Test
reply_tests r c d g k room = reason_tests r c d g k ++ room_tests room

unfoldable pub reply_refusal : ℕ → ℕ → ℕ → List ℕ → ℕ → ℕ → Option Refusal
reply_refusal r c d g k room = due (reply_tests r c d g k room)
