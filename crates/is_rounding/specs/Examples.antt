-- Literal cases of controlled roundings (specification, "The rounding"). Assumes nothing.
use Rattle.std.specs.Prelude.{Bool, true, false, List, [], ◌∷◌, ℕ}
use Rattle.is_rounding.specs.Rounding.{two_ways, is_rounding}

-- an array, and whether it is a controlled rounding of two rows and three columns: D 10, cells 3 4 5 and 20 6 7
pub record Candidate : Type 0 where
  pub counts : List ℕ
  pub rounds : Bool

abbrev pub table : List ℕ
table = 3 ∷ 4 ∷ 5 ∷ 20 ∷ 6 ∷ 7 ∷ []

abbrev pub rounds_table : Candidate → Bool
rounds_table x = is_rounding (two_ways 2 3) 10 table x.counts

abbrev pub candidates : List Candidate
candidates =
    record { counts = 0 ∷ 0 ∷ 1 ∷ 2 ∷ 1 ∷ 0 ∷ []; rounds = true }
    ∷ record { counts = 1 ∷ 1 ∷ 0 ∷ 2 ∷ 0 ∷ 1 ∷ []; rounds = true }
    -- each of these breaks one entry alone: a cell, a whole cell, the first and the second row, a whole column, another column, the grand total
    ∷ record { counts = 0 ∷ 0 ∷ 2 ∷ 2 ∷ 1 ∷ 0 ∷ []; rounds = false }
    ∷ record { counts = 0 ∷ 0 ∷ 1 ∷ 3 ∷ 1 ∷ 0 ∷ []; rounds = false }
    ∷ record { counts = 0 ∷ 0 ∷ 0 ∷ 2 ∷ 1 ∷ 1 ∷ []; rounds = false }
    ∷ record { counts = 0 ∷ 1 ∷ 1 ∷ 2 ∷ 0 ∷ 0 ∷ []; rounds = false }
    ∷ record { counts = 0 ∷ 0 ∷ 1 ∷ 2 ∷ 0 ∷ 1 ∷ []; rounds = false }
    ∷ record { counts = 1 ∷ 0 ∷ 0 ∷ 2 ∷ 1 ∷ 0 ∷ []; rounds = false }
    ∷ record { counts = 1 ∷ 0 ∷ 1 ∷ 2 ∷ 1 ∷ 1 ∷ []; rounds = false }
    -- a count of which only the low part is right
    ∷ record { counts = 256 ∷ 0 ∷ 1 ∷ 2 ∷ 1 ∷ 0 ∷ []; rounds = false }
    ∷ record { counts = 0 ∷ 0 ∷ 1 ∷ 2 ∷ 1 ∷ 65536 ∷ []; rounds = false }
    -- one count too few, one too many
    ∷ record { counts = 0 ∷ 0 ∷ 1 ∷ 2 ∷ 1 ∷ []; rounds = false }
    ∷ record { counts = 0 ∷ 0 ∷ 1 ∷ 2 ∷ 1 ∷ 0 ∷ 0 ∷ []; rounds = false }
    ∷ []
