-- Which refusal a table meets (specification, "Refusals"). Assumes nothing.
use Rattle.std.specs.Prelude.{◌≡◌, Bool, not, ◌&&◌, ℕ, ◌*◌, ◌≤◌, length, leb, eqb, Option, None}
use mathlib.Core.List.{List, [], ◌∷◌, ◌++◌, Memᴰ as Member}
use Rattle.base.specs.Lists.{all}
use Rattle.refusals.specs.declared.Refusal.{Refusal}
use Rattle.refusals.specs.declared.Refusal.TheVariants.{Size, Denominator, CellCount, LargeCell}
use Rattle.refusals.specs.Due.{Test, refuse, due}
use Rattle.table.specs.Table.{max_rows, max_columns, max_denominator, max_expected}

-- from 1 to a bound
abbrev pub up_to : ℕ → ℕ → Bool
up_to bound n = leb 1 n && leb n bound

-- a cell is at most 1000·D
abbrev pub cells_within : ℕ → List ℕ → Bool
cells_within d g = all (λ x. leb x (max_expected * d)) g

-- The tests of sizes, each by itself, of which a call composes its own list: 1, r or c not from 1 to 12; 2, D not from 1 to 65,535; 3, the cells are not as many
-- as they have to be.
abbrev pub size_within : ℕ → ℕ → Bool
size_within r c = up_to max_rows r && up_to max_columns c

abbrev pub denominator_within : ℕ → Bool
denominator_within d = up_to max_denominator d

abbrev pub size_test : ℕ → ℕ → Test
size_test r c = refuse Size (not (size_within r c))

abbrev pub denominator_test : ℕ → Test
denominator_test d = refuse Denominator (not (denominator_within d))

abbrev pub count_test : ℕ → ℕ → Test
count_test count cells = refuse CellCount (not (eqb count cells))

-- the first refusals of every call that takes a table of n cells, which are to be r·c many
abbrev pub size_tests : ℕ → ℕ → ℕ → ℕ → List Test
size_tests r c d n = size_test r c ∷ denominator_test d ∷ count_test n (r * c) ∷ []

-- and 4, a cell beyond the bounds
abbrev pub cell_tests : ℕ → ℕ → ℕ → ℕ → Bool → List Test
cell_tests r c d n within = size_tests r c d n ++ (refuse LargeCell (not within) ∷ [])

-- the refusals of a table: 1 to 3, and 4, a cell above 1000·D
abbrev pub table_tests : ℕ → ℕ → ℕ → List ℕ → List Test
table_tests r c d g = cell_tests r c d (length g) (cells_within d g)

unfoldable pub table_refusal : ℕ → ℕ → ℕ → List ℕ → Option Refusal
table_refusal r c d g = due (table_tests r c d g)

-- none of 1 to 3 applies, and a cell is 2³¹ or more: so is each cell below zero that is handed over as its 32 bits
pub record BelowZero (r c d : ℕ) (g : List ℕ) : Type 0 where
  pub sizes : due (size_tests r c d (length g)) ≡ None
  pub cell : ℕ
  pub there : Member cell g
  pub below : 2147483648 ≤ cell
