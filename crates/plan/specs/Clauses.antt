-- What the function that gathers a plan's arrays requires and promises. Assumes nothing.
use Rattle.std.specs.Prelude.{◌≡◌, List, ℕ, ◌+◌, ◌*◌, ◌<◌, length, get_or}
use Rattle.table.specs.Table.{max_arrays}
use Rattle.weighted_arrays.specs.Plan.{array_at}
use Rattle.planning.specs.Clauses.{Reached}

-- the counts of the largest plan: 170 arrays of 144 cells
abbrev pub max_counts : ℕ
max_counts = 24480

-- what all rounds of an accepted table need: room for each array's weight and counts
pub record RoundsReady (weights counts : List ℕ) : Type 0 where
  pub weights_room : length weights ≡ max_arrays
  pub counts_room : length counts ≡ max_counts

-- where the rounds stand, and the weights and arrays so far, in a scratch for those of the largest plan
pub record Gathered (r c d : ℕ) (g : List ℕ) (w k : ℕ) (e weights counts : List ℕ) : Type 0 where
  pub reached : Reached r c d g w k e
  pub weights_len : length weights ≡ max_arrays
  pub counts_len : length counts ≡ max_counts
  pub weight_at_is : (i : ℕ) → i < k → get_or weights i 0 ≡ (array_at reached.done i).weight
  pub count_at_is : (i j : ℕ) → i < k → j < r * c → get_or counts (i * (r * c) + j) 0 ≡ get_or (array_at reached.done i).counts j 0

-- no weight is left
pub record AllGathered (r c d : ℕ) (g : List ℕ) (k : ℕ) (weights counts : List ℕ) : Type 0 where
  pub e : List ℕ
  pub rounds : Gathered r c d g 0 k e weights counts
