-- What a path through the free places of a matrix leaves. Assumes nothing.
use Rattle.std.specs.Prelude.{◌≡◌, ℕ, ◌<◌, Option, Some, None}
use Rattle.sets.specs.Clauses.{on}
use Rattle.paths.specs.declared.FreePlaces.{FreePlaces}
use Rattle.paths.specs.Clauses.{Stuck, OneMore}

-- one more along a path from row start to a column of ends; or none: nothing has changed and there is no path
abbrev pub Augmented : FreePlaces → FreePlaces → ℕ → ℕ → Option ℕ → Type 0
Augmented m m' ends start (Some column) = (column < 13) × (on ends column ≡ 1) × OneMore m.up m.down m'.up m'.down start column
Augmented m m' ends start None = (m' ≡ m) × Stuck m.up m.down ends start
