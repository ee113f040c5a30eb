-- Which refusal a table of corrections meets, whose cells may be below zero (specification, "The rounding of corrections"). Assumes nothing.
use Rattle.std.specs.Prelude.{Bool, ◌&&◌, List, ℕ, ◌*◌, ℤ, pos, neg_ℤ, length, Option}
use Rattle.std.specs.Int.Signed.{le_z}
use Rattle.base.specs.Lists.{all}
use Rattle.refusals.specs.declared.Refusal.{Refusal}
use Rattle.refusals.specs.Due.{Test, due}
use Rattle.table.specs.Table.{max_expected}
use Rattle.table.specs.Check.{cell_tests}

-- a cell is from -1000·D to 1000·D
abbrev pub cell_within : ℕ → ℤ → Bool
cell_within bound z = le_z (neg_ℤ (pos bound)) z && le_z z (pos bound)

abbrev pub cells_within : ℕ → List ℤ → Bool
cells_within d g = all (cell_within (max_expected * d)) g

-- the refusals of a table of corrections: 1 to 3 as of every table; 4, a cell below -1000·D or above 1000·D
abbrev pub table_tests : ℕ → ℕ → ℕ → List ℤ → List Test
table_tests r c d g = cell_tests r c d (length g) (cells_within d g)

unfoldable pub table_refusal : ℕ → ℕ → ℕ → List ℤ → Option Refusal
table_refusal r c d g = due (table_tests r c d g)
