-- What holds of the reason of every array of an accepted table (specification, "Which entry set the weight"). Assumes nothing.
use Rattle.std.specs.Prelude.{◌≡◌, List, ℕ, ◌+◌, ◌-◌, length}
use Rattle.base.specs.Search.{FirstOf}
use Rattle.table.specs.Whole.{down}
use Rattle.weighted_arrays.specs.Plan.{array_at}
use Rattle.planning.specs.Rounds.{plan_of}
use Rattle.reasons.specs.declared.Entry.{Entry}
use Rattle.reasons.specs.declared.Entry.TheVariants.{Cell}
use Rattle.reasons.specs.declared.Direction.TheVariants.{Down, Up, AllWhole}
use Rattle.reasons.specs.Reason.{named_entries, expected_in, count_in, sets, set_by, reason, reason_of}
use Rattle.reasons.specs.Call.{round_at}

pub record Explained (r c d : ℕ) (g : List ℕ) (k : ℕ) : Type 0 where
  -- round k gives array k
  pub array : (round_at r c d g k).array ≡ array_at (plan_of r c d g).arrays (k - 1)
  -- the entry's limit is the array's weight, and that of no entry before it is
  pub entry : FirstOf (sets r c (round_at r c d g k)) (named_entries r c) (set_by r c (round_at r c d g k))
  -- rounded down and rounded up, to the next whole number
  pub rounded_down_is : (e : Entry) → reason_of r c (round_at r c d g k) ≡ reason e Down
      → count_in r c (round_at r c d g k) e ≡ down (round_at r c d g k).left (expected_in r c (round_at r c d g k) e)
  pub rounded_up : (e : Entry) → reason_of r c (round_at r c d g k) ≡ reason e Up
      → count_in r c (round_at r c d g k) e ≡ down (round_at r c d g k).left (expected_in r c (round_at r c d g k) e) + 1
  -- all are whole exactly for the last array, and the entry is then the first cell
  pub last_whole : k ≡ length (plan_of r c d g).arrays → reason_of r c (round_at r c d g k) ≡ reason (Cell 1 1) AllWhole
  pub whole_last : (e : Entry) → reason_of r c (round_at r c d g k) ≡ reason e AllWhole → k ≡ length (plan_of r c d g).arrays
  -- then, and only then, the weight is all that was left
  pub last_all : k ≡ length (plan_of r c d g).arrays → (round_at r c d g k).array.weight ≡ (round_at r c d g k).left
  pub all_last : (round_at r c d g k).array.weight ≡ (round_at r c d g k).left → k ≡ length (plan_of r c d g).arrays
