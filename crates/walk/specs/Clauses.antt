-- What the checks of a table for a walk answer. Assumes nothing.
use Rattle.std.specs.Prelude.{List, [], ◌∷◌, ℕ, Result, ⊤}
use Rattle.refusals.specs.Due.{due, answer_of}
use Rattle.table.specs.Check.{size_test}
use Rattle.table.specs.Clauses.{answered}
use Rattle.walk.specs.Call.{walk_size_test, walk_tests}
use Rattle.refusals.specs.declared.Refusal.{Refusal}
use Rattle.table.specs.declared.Table.{Table}

-- 1 and 15: the first that applies
unfoldable pub sides_check : ℕ → ℕ → Result ⊤ Refusal
sides_check r c = answer_of (due (size_test r c ∷ walk_size_test r c ∷ []))

-- the sizes where none of 1, 15, 2, 3 and 4 applies, else the first that does
unfoldable pub walk_check : ℕ → ℕ → ℕ → List ℕ → Result Table Refusal
walk_check r c d g = answered r c d (due (walk_tests r c d g))
