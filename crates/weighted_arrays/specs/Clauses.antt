-- Sums of weights, and of arrays times a factor, as functions add them up and compare them. Assumes nothing.
use Rattle.std.specs.Prelude.{◌≡◌, Bool, List, ℕ, ◌+◌, ◌*◌, ◌<◌, ◌≤◌, length, get_or, eqb}
use Rattle.base.specs.Lists.{sum_to, every}
use Rattle.base.specs.Clauses.{Filled}
use Rattle.table.specs.Table.{max_arrays, max_cells}
use Rattle.weighted_arrays.specs.Plan.{Weighted, array_at}

-- the largest product of a number of 32 bits and a count
abbrev pub max_product : ℕ
max_product = 281470681743360

-- there is a sum for each count, with room for as many products as a plan has arrays
pub record Addable (counts sums : List ℕ) : Type 0 where
  pub room : length counts ≤ max_cells
  pub sums_length : length sums ≡ max_cells
  pub small : (i : ℕ) → i < length counts → get_or sums i 0 ≤ max_arrays * max_product

-- each count times the factor is added to its sum, and the other sums stay
pub record Increased (factor : ℕ) (counts old new : List ℕ) : Type 0 where
  pub filled : Filled (λ i. get_or old i 0 + factor * get_or counts i 0) 0 old new (length counts)
  pub small : (i : ℕ) → i < length counts → get_or new i 0 ≤ get_or old i 0 + max_product

-- each cell is its sum
unfoldable pub cells_met : List ℕ → List ℕ → Bool
cells_met cells sums = every (length cells) (λ i. eqb (get_or sums i 0) (get_or cells i 0))

-- a factor for each array: its weight, or how many of its numbers are taken. Sums has for each of n cells the counts of the first k arrays times their factors, added up
abbrev pub factored : (ℕ → ℕ) → List Weighted → ℕ → ℕ → ℕ
factored f l k i = sum_to k (λ j. f j * get_or (array_at l j).counts i 0)

pub record SumsTo (f : ℕ → ℕ) (l : List Weighted) (n k : ℕ) (sums : List ℕ) : Type 0 where
  pub len : length sums ≡ max_cells
  pub is : (i : ℕ) → i < n → get_or sums i 0 ≡ factored f l k i
  pub small : (i : ℕ) → i < n → get_or sums i 0 ≤ k * max_product

-- the weight of each array
abbrev pub weight_at : List Weighted → ℕ → ℕ
weight_at l j = (array_at l j).weight
