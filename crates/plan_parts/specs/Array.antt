-- The call that tells an array of a stored plan, by its number (specification, "Which entry set the weight" and "Refusals"). Assumes nothing.
use Rattle.std.specs.Prelude.{not, ◌||◌, List, [], ◌∷◌, ◌++◌, ℕ, ◌-◌, length, ltb, Option}
use Rattle.base.specs.Buffers.{written}
use Rattle.refusals.specs.declared.Refusal.{Refusal}
use Rattle.refusals.specs.declared.Refusal.TheVariants.{Array, Buffer}
use Rattle.refusals.specs.Due.{Test, refuse, due}
use Rattle.table.specs.Check.{up_to}
use Rattle.weighted_arrays.specs.Plan.{array_at, cell_count}
use Rattle.form.specs.Form.{decode}
use Rattle.opening.specs.Open.{open_tests}

-- the two buffers that the call is lent, for the weight and for the counts
pub record Buffers : Type 0 where
  pub weights : List ℕ
  pub counts : List ℕ

abbrev pub buffers : List ℕ → List ℕ → Buffers
buffers weights counts = record { weights = weights; counts = counts }

-- the refusals of asking for array k with buffers of `one` and `room` numbers: those of opening, 5 and 6; 14, k is 0 or above the number of arrays; 7, there is
-- no room for the weight, or for the counts
abbrev pub array_tests : List ℕ → ℕ → ℕ → ℕ → List Test
array_tests b k one room =
    open_tests b
    ++ (refuse Array (not (up_to (length (decode b).arrays) k)) ∷ refuse Buffer (ltb one 1 || ltb room (cell_count (decode b))) ∷ [])

unfoldable pub array_refusal : List ℕ → ℕ → ℕ → ℕ → Option Refusal
array_refusal b k one room = due (array_tests b k one room)

-- what it writes: the weight and the counts of array k, counted from 1
abbrev pub array_into : List ℕ → ℕ → Buffers → Buffers
array_into b k old =
    let a = array_at (decode b).arrays (k - 1) in
    buffers (written (a.weight ∷ []) old.weights) (written a.counts old.counts)
