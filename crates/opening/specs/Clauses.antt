-- What the functions inside require and promise. Assumes nothing.
use Rattle.std.specs.Prelude.{◌≡◌, Bool, true, ◌&&◌, List, map, ℕ, ◌+◌, ◌<◌, length, get_or, leb, eqb}
use Rattle.base.specs.Lists.{sum, all, every}
use Rattle.table.specs.Table.{entry_places}
use Rattle.form.specs.declared.Sizes.{Sizes}
use Rattle.weighted_arrays.specs.Plan.{Plan, array_at, cell_count}
use Rattle.form.specs.Form.{decode}
use Rattle.opening.specs.Open.{held, weighted}
use Rattle.is_rounding.specs.Clauses.{Cells, Bounds}
use Rattle.weighted_arrays.specs.Clauses.{SumsTo, weight_at}

-- each weight is at least 1 and they add up to the denominator
abbrev pub weights_right : Plan → Bool
weights_right p = all (λ a. leb 1 a.weight) p.arrays && eqb (sum (map (λ a. a.weight) p.arrays)) p.denominator

-- each array is held to the table's entries, and for each cell the counts times the weights add up to it
unfoldable pub arrays_right : Plan → Bool
arrays_right p = all (held p) p.arrays && every (cell_count p) (λ i. eqb (weighted p.arrays i) (get_or p.cells i 0))

-- what is known before array k of a plan is tested, with the array itself, and after it
pub record ArraysTo (s : Sizes) (b low high : List ℕ) (k : ℕ) (sums : List ℕ) : Type 0 where
  pub bounds : Bounds (entry_places s.rows s.columns) s.denominator (decode b).cells low high
  pub sums_are : SumsTo (weight_at (decode b).arrays) (decode b).arrays (cell_count (decode b)) k sums

pub record ArrayTo (s : Sizes) (b low high : List ℕ) (k : ℕ) (sums : List ℕ) : Type 0 where
  pub so_far : ArraysTo s b low high k sums
  pub there : k < s.arrays

pub record ArrayTested (b : List ℕ) (k : ℕ) (r : Bool) (sums : List ℕ) : Type 0 where
  pub answer : r ≡ held (decode b) (array_at (decode b).arrays k)
  pub sums_are : SumsTo (weight_at (decode b).arrays) (decode b).arrays (cell_count (decode b)) (k + 1) sums

pub record ArraysTested (b : List ℕ) (r : Bool) (sums : List ℕ) : Type 0 where
  pub answer : r ≡ all (held (decode b)) (decode b).arrays
  pub sums_are : r ≡ true → SumsTo (weight_at (decode b).arrays) (decode b).arrays (cell_count (decode b)) (length (decode b).arrays) sums

-- the cells of a plan's table, within their bound
pub record TableOf (s : Sizes) (b cells : List ℕ) : Type 0 where
  pub is : cells ≡ (decode b).cells
  pub cells_are : Cells s.denominator cells
