-- What the functions that test a record require, and the parts of the definitions of Record that they are held to. Assumes nothing.
use Rattle.std.specs.Prelude.{◌≡◌, List, Bool, ℕ, ◌+◌, ◌*◌, ◌<◌, ◌≤◌, length, get_or, replicate, eqb}
use Rattle.base.specs.Lists.{tabulate, every}
use Rattle.base.specs.Buffers.{written}
use Rattle.table.specs.Table.{max_cells, max_arrays, max_denominator}
use Rattle.form.specs.declared.Sizes.{Sizes}
use Rattle.weighted_arrays.specs.Plan.{Weighted, Plan, array_at, cell_count, weights_before}
use Rattle.form.specs.Form.{decode}
use Rattle.weighted_arrays.specs.Clauses.{max_product, Addable, weight_at, factored, SumsTo}
use Rattle.bits.specs.Bits.{bit_bytes}
use Rattle.bits.specs.Clauses.{bits_set}

-- the numbers of array k, counted from 0, begin after the weights before it: how many of them are taken
abbrev pub taken_of : List Weighted → List ℕ → ℕ → ℕ
taken_of l bits k = bits_set bits (weights_before l k) (weight_at l k)

-- how many numbers of each array are taken, in a list of as many as a plan can have, and 0 beyond the arrays
unfoldable pub taken_numbers : List Weighted → List ℕ → List ℕ
taken_numbers l bits = written (tabulate (length l) (taken_of l bits)) (replicate max_arrays 0)

-- the bits are enough for the numbers of all arrays of a plan
pub record Numbered (b bits : List ℕ) : Type 0 where
  pub few : weights_before (decode b).arrays (length (decode b).arrays) ≤ max_denominator
  pub room : weights_before (decode b).arrays (length (decode b).arrays) ≤ 8 * length bits

-- a plan has an array k, counted from 0, which can be added to some sums
pub record ArrayAddable (s : Sizes) (b : List ℕ) (k : ℕ) (sums : List ℕ) : Type 0 where
  pub there : k < s.arrays
  pub addable : Addable (array_at (decode b).arrays k).counts sums

-- for each cell the counts of all arrays, each times the number for it, added up
abbrev pub ArraysAdded : List ℕ → List ℕ → List ℕ → Type 0
ArraysAdded b taken sums = SumsTo (λ j. get_or taken j 0) (decode b).arrays (cell_count (decode b)) (length (decode b).arrays) sums

-- buffers not shorter than a record of a plan of these sizes
pub record Fitted (s : Sizes) (bits tally : List ℕ) : Type 0 where
  pub bits_room : bit_bytes s.denominator ≤ length bits
  pub tally_room : s.rows * s.columns ≤ length tally

-- there is a cell and a sum for each number of a tally, and the sums are small enough to be added to
pub record Compared (cells sums tally : List ℕ) : Type 0 where
  pub few : length tally ≤ max_cells
  pub cells_length : length cells ≡ max_cells
  pub sums_length : length sums ≡ max_cells
  pub small : (i : ℕ) → i < length tally → get_or sums i 0 ≤ max_arrays * max_product

-- each number of a tally is rounds times its cell plus its sum
unfoldable pub tally_met : ℕ → List ℕ → List ℕ → List ℕ → Bool
tally_met rounds cells sums tally = every (length tally) (λ i. eqb (rounds * get_or cells i 0 + get_or sums i 0) (get_or tally i 0))

-- the tally is rounds times the table plus the arrays, each times the number for it
unfoldable pub tally_fits : ℕ → Plan → List ℕ → List ℕ → Bool
tally_fits rounds p taken tally =
    every (cell_count p) (λ i. eqb (get_or tally i 0) (rounds * get_or p.cells i 0 + factored (λ j. get_or taken j 0) p.arrays (length p.arrays) i))
