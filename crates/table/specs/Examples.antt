-- Literal cases of a table's check, of its entries and of the rounding of one entry (specification, "From table to campaign", "The rounding" and "Refusals").
-- Assumes nothing.
use Rattle.std.specs.Prelude.{Bool, true, false, List, [], ◌∷◌, ◌++◌, map, ℕ, replicate}
use Rattle.table.specs.Whole.{down, up, rounds_to}
use Rattle.table.specs.Clauses.{check_of, checked_number}

-- a table and the number that its check gives, 0 for an accepted one
pub record Case : Type 0 where
  pub rows : ℕ
  pub columns : ℕ
  pub denominator : ℕ
  pub cells : List ℕ
  pub number : ℕ

abbrev pub gives : ℕ → ℕ → ℕ → List ℕ → ℕ → Case
gives r c d g n = record { rows = r; columns = c; denominator = d; cells = g; number = n }

abbrev pub checked : Case → ℕ
checked x = checked_number (check_of x.rows x.columns x.denominator x.cells)

abbrev pub cases : List Case
cases =
    gives 2 3 10 (0 ∷ 1 ∷ 2 ∷ 3 ∷ 4 ∷ 5 ∷ []) 0
    -- 1: rows, columns
    ∷ gives 12 1 1 (replicate 12 0) 0
    ∷ gives 0 1 1 [] 1
    ∷ gives 13 1 1 (replicate 13 0) 1
    ∷ gives 1 12 1 (replicate 12 0) 0
    ∷ gives 1 0 1 [] 1
    ∷ gives 1 13 1 (replicate 13 0) 1
    -- 12 of each, and rows and columns of which only the low part is within the bound
    ∷ gives 12 12 1 (replicate 144 0) 0
    ∷ gives 257 1 1 (0 ∷ []) 1
    ∷ gives 65537 1 1 (0 ∷ []) 1
    ∷ gives 16777217 1 1 (0 ∷ []) 1
    ∷ gives 2147483649 1 1 (0 ∷ []) 1
    ∷ gives 1 257 1 (0 ∷ []) 1
    ∷ gives 1 65537 1 (0 ∷ []) 1
    ∷ gives 1 16777217 1 (0 ∷ []) 1
    ∷ gives 1 2147483649 1 (0 ∷ []) 1
    -- 2: the denominator
    ∷ gives 1 1 65535 (0 ∷ []) 0
    ∷ gives 1 1 0 (0 ∷ []) 2
    ∷ gives 1 1 65536 (0 ∷ []) 2
    ∷ gives 1 1 65537 (0 ∷ []) 2
    ∷ gives 1 1 131071 (0 ∷ []) 2
    ∷ gives 1 1 16777217 (0 ∷ []) 2
    ∷ gives 1 1 2147483649 (0 ∷ []) 2
    ∷ gives 1 1 4294967295 (0 ∷ []) 2
    -- 3: one cell too few, one too many, 256 too many
    ∷ gives 2 3 1 (replicate 5 0) 3
    ∷ gives 2 3 1 (replicate 7 0) 3
    ∷ gives 2 3 1 (replicate 262 0) 3
    -- 4: a cell of 1000·D and of one more
    ∷ gives 1 1 65535 (65535000 ∷ []) 0
    ∷ gives 1 1 65535 (65535001 ∷ []) 4
    ∷ gives 1 2 7 (7000 ∷ 7001 ∷ []) 4
    ∷ gives 1 2 7 (7001 ∷ 7000 ∷ []) 4
    ∷ gives 1 3 7 (0 ∷ 7001 ∷ 0 ∷ []) 4
    -- cells of which only the second, the third or the fourth byte is not 0
    ∷ gives 1 1 1 (1024 ∷ []) 4
    ∷ gives 1 1 1 (65536 ∷ []) 4
    ∷ gives 1 1 1 (16777216 ∷ []) 4
    -- a cell below zero, handed over as its bits: -1, -1000·D and the least of 32 bits
    ∷ gives 1 1 65535 (4294967295 ∷ []) 4
    ∷ gives 1 1 65535 (4229432296 ∷ []) 4
    ∷ gives 1 2 1 (0 ∷ 2147483648 ∷ []) 4
    -- two at once: 1 and 2, 1 and 3, 1 and 4, 2 and 3, 2 and 4, 3 and 4
    ∷ gives 13 1 0 (replicate 13 0) 1
    ∷ gives 1 13 1 (0 ∷ []) 1
    ∷ gives 1 13 1 (1001 ∷ replicate 12 0) 1
    ∷ gives 2 3 65536 (replicate 5 0) 2
    ∷ gives 1 1 0 (1 ∷ []) 2
    ∷ gives 2 3 1 (1001 ∷ replicate 4 0) 3
    ∷ []

-- an entry over 10, rounded down and up, and which of the counts 0 to 4 round it: a whole entry stays
pub record Rounded : Type 0 where
  pub entry : ℕ
  pub low : ℕ
  pub high : ℕ
  pub counts : List Bool

abbrev pub rounded : List Rounded
rounded =
    record { entry = 0; low = 0; high = 0; counts = true ∷ false ∷ false ∷ false ∷ false ∷ [] }
    ∷ record { entry = 19; low = 1; high = 2; counts = false ∷ true ∷ true ∷ false ∷ false ∷ [] }
    ∷ record { entry = 20; low = 2; high = 2; counts = false ∷ false ∷ true ∷ false ∷ false ∷ [] }
    ∷ record { entry = 21; low = 2; high = 3; counts = false ∷ false ∷ true ∷ true ∷ false ∷ [] }
    -- above 2^32: 19 more
    ∷ record { entry = 4294967315; low = 429496731; high = 429496732; counts = false ∷ false ∷ false ∷ false ∷ false ∷ [] }
    ∷ []

abbrev pub rounded_of : ℕ → Rounded
rounded_of e = record { entry = e; low = down 10 e; high = up 10 e; counts = map (rounds_to 10 e) (0 ∷ 1 ∷ 2 ∷ 3 ∷ 4 ∷ []) }

-- the largest table, 12 by 12 cells of 1000 · 65,535, and its entries: cells, row totals, column totals, and the grand total above 2^32
abbrev pub full : List ℕ
full = replicate 144 65535000

abbrev pub full_entries : List ℕ
full_entries = replicate 144 65535000 ++ replicate 12 786420000 ++ replicate 12 786420000 ++ (9437040000 ∷ [])
