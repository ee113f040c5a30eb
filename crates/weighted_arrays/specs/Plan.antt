-- Plans, and the array that belongs to a draw number (specification, "The plan"). Assumes nothing.
use Rattle.std.specs.Prelude.{cond, List, [], ◌∷◌, ℕ, ◌+◌, ◌-◌, ◌*◌, ◌<◌, ◌≤◌, length, get_or, ltb}
use Rattle.base.specs.Lists.{sum_to}

-- an array with its weight
pub record Weighted : Type 0 where
  pub weight : ℕ
  pub counts : List ℕ

-- the array at a place of a list, and where there is none an empty one of weight 0
abbrev pub array_at : List Weighted → ℕ → Weighted
array_at l k = get_or l k (record { weight = 0; counts = [] })

-- a table with its list of weighted arrays
pub record Plan : Type 0 where
  pub rows : ℕ
  pub columns : ℕ
  pub denominator : ℕ
  pub cells : List ℕ
  pub arrays : List Weighted

-- how many cells a plan's table has
abbrev pub cell_count : Plan → ℕ
cell_count p = p.rows * p.columns

-- the array that draw number d belongs to: the first whose weight, with those before it, is more than d; an empty list where all weights together are not
unfoldable pub array_for : List Weighted → ℕ → List ℕ
array_for [] d = []
array_for (a ∷ l) d = cond (ltb d a.weight) a.counts (array_for l (d - a.weight))

-- the weights before array k, counted from 0, added up
abbrev pub weights_before : List Weighted → ℕ → ℕ
weights_before l k = sum_to k (λ j. (array_at l j).weight)

-- draw number d belongs to array k, counted from 0: the weights before k add up to at most d, and with k to more than d
pub record Belongs (l : List Weighted) (d k : ℕ) : Type 0 where
  pub there : k < length l
  pub before : weights_before l k ≤ d
  pub with : d < weights_before l (k + 1)
