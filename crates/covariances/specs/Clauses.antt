-- Covariances as the code holds them, lifted, so that none is below zero; and what the functions inside require and promise. Assumes nothing.
use Rattle.std.specs.Prelude.{◌≡◌, ℕ, ◌+◌, ◌-◌, ◌*◌, ◌≤◌, ◌<◌, min, max, length, get_or}
use mathlib.Core.List.{List, [], foldl}
use Rattle.std.proofs.Math.IntN.{sub_ℕ}
use Rattle.base.specs.Lists.{tabulate, join_to}
use Rattle.table.specs.Table.{max_denominator}
use Rattle.weighted_arrays.specs.Plan.{Plan, Weighted, array_at, cell_count}
use Rattle.weighted_arrays.specs.Clauses.{SumsTo}
use Rattle.form.specs.Form.{decode}
use Rattle.covariances.specs.declared.Extremes.{Extremes}
use Rattle.covariances.specs.Covariance.{at, weighted_products, lift, covariances, smallest, largest}

-- a covariance lifted, of the denominator, the weighted products and two cells
abbrev pub lifted : ℕ → ℕ → ℕ → ℕ → ℕ
lifted d s x y = d * s + lift - x * y

-- the counts of the first k arrays, each with n counts
pub record Kept (l : List Weighted) (n k : ℕ) (counts : List (List ℕ)) : Type 0 where
  pub is : (j i : ℕ) → j < k → i < n → get_or (get_or counts j []) i 0 ≡ get_or (array_at l j).counts i 0

-- the weight of each array times its count at place a
abbrev pub factors : List Weighted → ℕ → ℕ → ℕ
factors l a j = (array_at l j).weight * get_or (array_at l j).counts a 0

-- the counts of a plan's arrays, a place, and sums that hold nothing yet
pub record RowReady (b : List ℕ) (counts : List (List ℕ)) (a : ℕ) (sums : List ℕ) : Type 0 where
  pub kept : Kept (decode b).arrays (cell_count (decode b)) (length (decode b).arrays) counts
  pub there : a < cell_count (decode b)
  pub empty : SumsTo (factors (decode b).arrays a) (decode b).arrays a 0 sums

-- the largest cell, 1000 · 65,535, and the largest sum of weighted products of counts, 1000 · 1000 · 65,535
abbrev pub max_cell : ℕ
max_cell = 65535000

abbrev pub max_products : ℕ
max_products = 65535000000

-- what lifting a covariance needs: a denominator, weighted products and two cells within their bounds
pub record Liftable (d s x y : ℕ) : Type 0 where
  pub denominator : d ≤ max_denominator
  pub products : s ≤ max_products
  pub first : x ≤ max_cell
  pub second : y ≤ max_cell

-- the covariances of the cell at place a with those before it, lifted
abbrev pub lifted_row : ℕ → List ℕ → ℕ → List ℕ → ℕ → ℕ
lifted_row d cells a sums b = lifted d (get_or sums b 0) (get_or cells a 0) (get_or cells b 0)

pub record ExtremesReady (d : ℕ) (cells : List ℕ) (a : ℕ) (sums : List ℕ) : Type 0 where
  pub there : a < length cells
  pub few : length cells ≤ 144
  pub room : length sums ≡ 144
  pub liftable : (b : ℕ) → b < a → Liftable d (get_or sums b 0) (get_or cells a 0) (get_or cells b 0)

-- the smaller of the least so far and some numbers, the larger of the greatest so far and some numbers
pub record ExtremesOf (e : Extremes) (l : List ℕ) (r : Extremes) : Type 0 where
  pub low : r.low ≡ foldl min e.low l
  pub high : r.high ≡ foldl max e.high l

-- the covariance of two cells of a plan, lifted, and those of all pairs of different cells
abbrev pub lifted_pair : Plan → ℕ → ℕ → ℕ
lifted_pair p a b = lifted p.denominator (weighted_products p.arrays (at a) (at b)) (at a p.cells) (at b p.cells)

unfoldable pub lifted_pairs : Plan → ℕ → List ℕ
lifted_pairs p n = join_to n (λ a. tabulate a (lifted_pair p a))

-- a plan's cells, and the counts of its arrays
pub record RowsReady (b cells : List ℕ) (counts : List (List ℕ)) : Type 0 where
  pub cells_are : cells ≡ (decode b).cells
  pub kept : Kept (decode b).arrays (cell_count (decode b)) (length (decode b).arrays) counts

-- and a place
pub record RowAt (b cells : List ℕ) (counts : List (List ℕ)) (a : ℕ) : Type 0 where
  pub rows : RowsReady b cells counts
  pub there : a < cell_count (decode b)

-- before the first pair: no lifted covariance is above the one or below the other
abbrev pub widest : Extremes
widest = record { low = 2 * lift; high = 0 }

-- an opened plan's smallest and largest covariance, lifted
pub record Extremal (p : Plan) (r : Extremes) : Type 0 where
  pub smallest_is : sub_ℕ r.low lift ≡ smallest (covariances p)
  pub largest_is : sub_ℕ r.high lift ≡ largest (covariances p)
  pub low_small : r.low ≤ 2 * lift
  pub high_small : r.high ≤ 2 * lift
