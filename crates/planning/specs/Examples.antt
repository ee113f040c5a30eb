-- Literal cases of limits (specification, "The plan"). Assumes nothing.
use Rattle.std.specs.Prelude.{List, [], ◌∷◌, ℕ}
use Rattle.planning.specs.Rounds.{limit_of}

-- an entry over w with its count, and its limit
pub record Limit : Type 0 where
  pub weight : ℕ
  pub entry : ℕ
  pub count : ℕ
  pub limit : ℕ

abbrev pub limit_is : ℕ → ℕ → ℕ → ℕ → Limit
limit_is w e n l = record { weight = w; entry = e; count = n; limit = l }

abbrev pub limited : Limit → ℕ
limited x = limit_of x.weight x.entry x.count

abbrev pub limits : List Limit
limits =
    -- rounded down, rounded up, whole
    limit_is 10 3 0 7
    ∷ limit_is 10 3 1 3
    ∷ limit_is 10 23 2 7
    ∷ limit_is 10 23 3 3
    ∷ limit_is 10 20 2 10
    ∷ limit_is 10 0 0 10
    -- entries above 2^32
    ∷ limit_is 10 4294967313 429496731 7
    ∷ limit_is 10 4294967313 429496732 3
    ∷ limit_is 65535 9437040000 144000 65535
    ∷ []
