-- What a search of the free places of a matrix needs and finds. Assumes nothing.
use Rattle.std.specs.Prelude.{◌≡◌, List, ℕ, ◌<◌, length, Option, Some, None}
use Rattle.sets.specs.Clauses.{on}
use Rattle.paths.specs.declared.Reached.{Reached}
use Rattle.paths.specs.declared.Found.{Found}
use Rattle.paths.specs.Clauses.{Trail, Stuck}

-- what a search needs: a row, and room for 14 levels
pub record SearchReady (start : ℕ) (r : Reached) : Type 0 where
  pub inside : start < 13
  pub rows_len : length r.rows ≡ 14
  pub cols_len : length r.cols ≡ 14

-- what a search finds: a column of ends and the levels up to it, or none
abbrev pub SearchFound : List ℕ → List ℕ → ℕ → ℕ → Reached → Option Found → Type 0
SearchFound up down ends start r (Some f) = (on ends f.column ≡ 1) × Trail up down r.rows r.cols start f.column f.level
SearchFound up down ends start r None = Stuck up down ends start
