-- What a check answers. Assumes nothing.
use Rattle.std.specs.Prelude.{List, ℕ, ℤ, length, Result}
use Rattle.table.specs.Clauses.{check_of_cells}
use Rattle.correction_check.specs.Check.{cells_within}
use Rattle.refusals.specs.declared.Refusal.{Refusal}
use Rattle.table.specs.declared.Table.{Table}

-- the sizes are accepted if none of the refusals of a table of corrections applies
unfoldable pub check_of : ℕ → ℕ → ℕ → List ℤ → Result Table Refusal
check_of r c d g = check_of_cells r c d (length g) (cells_within d g)
