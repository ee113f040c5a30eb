-- Literal cases of controlled roundings of corrections, of the first of them and of the call (specification, "The rounding of corrections"). Assumes nothing.
use Rattle.std.specs.Prelude.{Bool, true, false, List, [], ◌∷◌, ℕ, ℤ, pos, neg_ℤ, replicate}
use Rattle.refusals.specs.Answer.{answer_number}
use Rattle.refusals.specs.Due.{answer_of}
use Rattle.corrections.specs.Rounding.{up, rounds_to, is_rounding}
use Rattle.corrections.specs.Same.{reply_of}
use Rattle.division.specs.Division.{down}

-- a number below zero, by its size
abbrev pub minus : ℕ → ℤ
minus n = neg_ℤ (pos n)

-- an entry over 10, rounded down and up, and which of the counts -3 to 1 round it: a whole entry stays
pub record Rounded : Type 0 where
  pub entry : ℤ
  pub low : ℤ
  pub high : ℤ
  pub counts : List Bool

abbrev pub rounded : List Rounded
rounded =
    record { entry = pos 1; low = pos 0; high = pos 1; counts = false ∷ false ∷ false ∷ true ∷ true ∷ [] }
    ∷ record { entry = pos 0; low = pos 0; high = pos 0; counts = false ∷ false ∷ false ∷ true ∷ false ∷ [] }
    ∷ record { entry = minus 1; low = minus 1; high = pos 0; counts = false ∷ false ∷ true ∷ true ∷ false ∷ [] }
    ∷ record { entry = minus 9; low = minus 1; high = pos 0; counts = false ∷ false ∷ true ∷ true ∷ false ∷ [] }
    ∷ record { entry = minus 10; low = minus 1; high = minus 1; counts = false ∷ false ∷ true ∷ false ∷ false ∷ [] }
    ∷ record { entry = minus 11; low = minus 2; high = minus 1; counts = false ∷ true ∷ true ∷ false ∷ false ∷ [] }
    ∷ record { entry = minus 20; low = minus 2; high = minus 2; counts = false ∷ true ∷ false ∷ false ∷ false ∷ [] }
    ∷ []

abbrev pub rounded_of : Rounded → Rounded
rounded_of x = record {
  entry = x.entry;
  low = down 10 x.entry;
  high = up 10 x.entry;
  counts = rounds_to 10 x.entry (minus 3) ∷ rounds_to 10 x.entry (minus 2) ∷ rounds_to 10 x.entry (minus 1) ∷ rounds_to 10 x.entry (pos 0)
      ∷ rounds_to 10 x.entry (pos 1) ∷ [];
}

-- an array, and whether it is a controlled rounding of two rows and three columns: D 10, cells -3 4 -5 and -20 6 -7
pub record Candidate : Type 0 where
  pub counts : List ℤ
  pub rounds : Bool

abbrev pub sheet : List ℤ
sheet = minus 3 ∷ pos 4 ∷ minus 5 ∷ minus 20 ∷ pos 6 ∷ minus 7 ∷ []

abbrev pub rounds_sheet : Candidate → Bool
rounds_sheet x = is_rounding 2 3 10 sheet x.counts

abbrev pub candidates : List Candidate
candidates =
    record { counts = minus 1 ∷ pos 0 ∷ pos 0 ∷ minus 2 ∷ pos 1 ∷ minus 1 ∷ []; rounds = true }
    ∷ record { counts = pos 0 ∷ pos 1 ∷ minus 1 ∷ minus 2 ∷ pos 0 ∷ pos 0 ∷ []; rounds = true }
    -- each of these breaks one entry alone: a cell, a whole cell by one less and by one more, the first and the second row, a whole column, another column, the
    -- grand total
    ∷ record { counts = pos 0 ∷ pos 1 ∷ minus 2 ∷ minus 2 ∷ pos 0 ∷ pos 0 ∷ []; rounds = false }
    ∷ record { counts = pos 0 ∷ pos 0 ∷ minus 1 ∷ minus 3 ∷ pos 1 ∷ pos 0 ∷ []; rounds = false }
    ∷ record { counts = minus 1 ∷ pos 1 ∷ minus 1 ∷ minus 1 ∷ pos 0 ∷ minus 1 ∷ []; rounds = false }
    ∷ record { counts = pos 0 ∷ pos 1 ∷ pos 0 ∷ minus 2 ∷ pos 0 ∷ minus 1 ∷ []; rounds = false }
    ∷ record { counts = pos 0 ∷ pos 0 ∷ minus 1 ∷ minus 2 ∷ pos 1 ∷ pos 0 ∷ []; rounds = false }
    ∷ record { counts = minus 1 ∷ pos 1 ∷ minus 1 ∷ minus 2 ∷ pos 1 ∷ minus 1 ∷ []; rounds = false }
    ∷ record { counts = minus 1 ∷ pos 1 ∷ pos 0 ∷ minus 2 ∷ pos 0 ∷ pos 0 ∷ []; rounds = false }
    ∷ record { counts = minus 1 ∷ pos 1 ∷ minus 1 ∷ minus 2 ∷ pos 0 ∷ minus 1 ∷ []; rounds = false }
    -- one count too few, one too many
    ∷ record { counts = minus 1 ∷ pos 0 ∷ pos 0 ∷ minus 2 ∷ pos 1 ∷ []; rounds = false }
    ∷ record { counts = minus 1 ∷ pos 0 ∷ pos 0 ∷ minus 2 ∷ pos 1 ∷ minus 1 ∷ pos 0 ∷ []; rounds = false }
    ∷ []

-- a call: a table and a buffer; the number that it returns, and the buffer as it leaves it
pub record Round : Type 0 where
  pub rows : ℕ
  pub columns : ℕ
  pub denominator : ℕ
  pub cells : List ℤ
  pub buffer : List ℤ
  pub number : ℕ
  pub result : List ℤ

pub record Outcome : Type 0 where
  pub number : ℕ
  pub left : List ℤ

abbrev pub outcome : Round → Outcome
outcome x =
    let y = reply_of x.rows x.columns x.denominator x.cells x.buffer in
    record { number = answer_number (answer_of y.due); left = y.left }

abbrev pub said : Round → Outcome
said x = record { number = x.number; left = x.result }

abbrev pub rounds : ℕ → ℕ → ℕ → List ℤ → List ℤ → List ℤ → Round
rounds r c d g buffer result = record { rows = r; columns = c; denominator = d; cells = g; buffer = buffer; number = 0; result = result }

abbrev pub refuses : ℕ → ℕ → ℕ → List ℤ → List ℤ → ℕ → Round
refuses r c d g buffer n = record { rows = r; columns = c; denominator = d; cells = g; buffer = buffer; number = n; result = buffer }

-- a buffer of n counts, each 8
abbrev pub eights : ℕ → List ℤ
eights n = replicate n (pos 8)

abbrev pub mixed : List ℤ
mixed = minus 3 ∷ pos 4 ∷ minus 5 ∷ pos 20 ∷ minus 6 ∷ pos 7 ∷ []

abbrev pub calls : List Round
calls =
    -- a half below 0 lies between -1 and 0
    rounds 1 1 2 (minus 1 ∷ []) (eights 1) (minus 1 ∷ [])
    -- cells on both sides of 0, and all below
    ∷ rounds 2 3 10 mixed (eights 6) (minus 1 ∷ pos 0 ∷ pos 0 ∷ pos 2 ∷ minus 1 ∷ pos 1 ∷ [])
    ∷ rounds 2 2 10 (minus 3 ∷ minus 4 ∷ minus 5 ∷ minus 6 ∷ []) (eights 4) (minus 1 ∷ pos 0 ∷ pos 0 ∷ minus 1 ∷ [])
    -- whole entries below 0 stay: a cell, which gets no lower and no higher, a row total, a column total, the grand total
    ∷ rounds 2 2 4 (minus 4 ∷ minus 2 ∷ minus 2 ∷ pos 0 ∷ []) (eights 4) (minus 1 ∷ minus 1 ∷ pos 0 ∷ pos 0 ∷ [])
    ∷ rounds 2 3 4 (minus 1 ∷ minus 1 ∷ minus 4 ∷ pos 0 ∷ pos 0 ∷ minus 3 ∷ []) (eights 6) (minus 1 ∷ pos 0 ∷ minus 1 ∷ pos 0 ∷ pos 0 ∷ minus 1 ∷ [])
    ∷ rounds 2 2 4 (minus 2 ∷ minus 2 ∷ minus 1 ∷ pos 0 ∷ []) (eights 4) (minus 1 ∷ pos 0 ∷ pos 0 ∷ pos 0 ∷ [])
    ∷ rounds 2 2 4 (minus 2 ∷ minus 1 ∷ minus 2 ∷ pos 0 ∷ []) (eights 4) (minus 1 ∷ pos 0 ∷ pos 0 ∷ pos 0 ∷ [])
    ∷ rounds 2 2 2 (minus 1 ∷ pos 0 ∷ pos 0 ∷ minus 1 ∷ []) (eights 4) (minus 1 ∷ pos 0 ∷ pos 0 ∷ pos 0 ∷ [])
    -- a row total of 0 from cells on both sides of it stays, and a column total
    ∷ rounds 2 2 2 (minus 1 ∷ pos 1 ∷ pos 0 ∷ pos 1 ∷ []) (eights 4) (minus 1 ∷ pos 1 ∷ pos 0 ∷ pos 0 ∷ [])
    ∷ rounds 2 2 2 (minus 1 ∷ pos 0 ∷ pos 1 ∷ pos 1 ∷ []) (eights 4) (minus 1 ∷ pos 0 ∷ pos 1 ∷ pos 0 ∷ [])
    -- what the buffer has beyond the array stays
    ∷ rounds 1 2 4 (minus 4 ∷ minus 6 ∷ []) (pos 8 ∷ pos 8 ∷ pos 9 ∷ minus 7 ∷ []) (minus 1 ∷ minus 2 ∷ pos 9 ∷ minus 7 ∷ [])
    ∷ rounds 1 2 4 (minus 4 ∷ minus 6 ∷ []) (eights 256) (minus 1 ∷ minus 2 ∷ eights 254)
    -- counts below -255
    ∷ rounds 2 3 1000 (minus 300400 ∷ minus 70 ∷ minus 65936 ∷ minus 1500 ∷ minus 260 ∷ minus 999 ∷ []) (eights 6) (minus 301 ∷ minus 1 ∷ minus 65 ∷ minus 1 ∷ pos 0 ∷ minus 1 ∷ [])
    -- without a cell below 0, as the call "rounding" does
    ∷ rounds 2 3 10 (pos 3 ∷ pos 4 ∷ pos 5 ∷ pos 20 ∷ pos 6 ∷ pos 7 ∷ []) (eights 6) (pos 0 ∷ pos 0 ∷ pos 1 ∷ pos 2 ∷ pos 1 ∷ pos 0 ∷ [])
    ∷ rounds 2 3 1000 (pos 300400 ∷ pos 70 ∷ pos 65936 ∷ pos 1500 ∷ pos 260 ∷ pos 999 ∷ []) (eights 6) (pos 300 ∷ pos 0 ∷ pos 66 ∷ pos 1 ∷ pos 1 ∷ pos 1 ∷ [])
    -- the bounds, and one within each
    ∷ rounds 1 2 65535 (minus 65535000 ∷ pos 65535000 ∷ []) (eights 2) (minus 1000 ∷ pos 1000 ∷ [])
    ∷ rounds 1 1 65535 (minus 65534999 ∷ []) (eights 1) (minus 1000 ∷ [])
    ∷ rounds 1 1 65535 (pos 65534999 ∷ []) (eights 1) (pos 999 ∷ [])
    -- 4: one beyond either, the least and the largest number of 32 bits, and beside a bound
    ∷ refuses 1 1 65535 (minus 65535001 ∷ []) (eights 1) 4
    ∷ refuses 1 1 65535 (pos 65535001 ∷ []) (eights 1) 4
    ∷ refuses 1 1 65535 (minus 2147483648 ∷ []) (eights 1) 4
    ∷ refuses 1 1 65535 (pos 2147483647 ∷ []) (eights 1) 4
    ∷ refuses 1 2 7 (minus 7000 ∷ minus 7001 ∷ []) (eights 2) 4
    ∷ refuses 1 2 7 (pos 7001 ∷ pos 7000 ∷ []) (eights 2) 4
    -- cells of which only the third or the fourth byte is not that of a cell within the bounds
    ∷ refuses 1 1 1 (pos 65536 ∷ []) (eights 1) 4
    ∷ refuses 1 1 1 (minus 65536 ∷ []) (eights 1) 4
    ∷ refuses 1 1 1 (pos 16777216 ∷ []) (eights 1) 4
    ∷ refuses 1 1 1 (minus 16777216 ∷ []) (eights 1) 4
    -- 1: rows, columns
    ∷ refuses 0 1 1 [] (eights 1) 1
    ∷ refuses 13 1 1 (replicate 13 (minus 1)) (eights 13) 1
    ∷ refuses 1 0 1 [] (eights 1) 1
    ∷ refuses 1 13 1 (replicate 13 (minus 1)) (eights 13) 1
    ∷ refuses 257 1 1 (pos 0 ∷ []) (eights 1) 1
    ∷ refuses 65537 1 1 (pos 0 ∷ []) (eights 1) 1
    ∷ refuses 1 257 1 (pos 0 ∷ []) (eights 1) 1
    ∷ refuses 1 65537 1 (pos 0 ∷ []) (eights 1) 1
    -- 2: the denominator
    ∷ refuses 1 1 0 (pos 0 ∷ []) (eights 1) 2
    ∷ refuses 1 1 65536 (minus 1 ∷ []) (eights 1) 2
    ∷ refuses 1 1 65537 (minus 1 ∷ []) (eights 1) 2
    ∷ refuses 1 1 16777217 (minus 1 ∷ []) (eights 1) 2
    -- 3: one cell too few, one too many, 256 too many
    ∷ refuses 2 3 1 (replicate 5 (minus 1)) (eights 6) 3
    ∷ refuses 2 3 1 (replicate 7 (minus 1)) (eights 6) 3
    ∷ refuses 2 3 1 (replicate 262 (minus 1)) (eights 6) 3
    -- two at once: 1 and 2, 1 and 3, 1 and 4, 2 and 3, 2 and 4, 3 and 4
    ∷ refuses 13 1 0 (replicate 13 (pos 0)) (eights 13) 1
    ∷ refuses 1 13 1 (pos 0 ∷ []) (eights 13) 1
    ∷ refuses 1 13 1 (replicate 13 (minus 1001)) (eights 13) 1
    ∷ refuses 2 3 65536 (replicate 5 (pos 0)) (eights 6) 2
    ∷ refuses 1 1 0 (minus 1 ∷ []) (eights 1) 2
    ∷ refuses 2 3 1 (minus 1001 ∷ pos 0 ∷ pos 0 ∷ pos 0 ∷ pos 0 ∷ []) (eights 6) 3
    -- 7 alone, and with each of 1, 2, 3 and 4
    ∷ refuses 2 3 10 mixed (eights 5) 7
    ∷ refuses 2 3 10 mixed (eights 0) 7
    ∷ refuses 13 1 1 (replicate 13 (pos 0)) (eights 5) 1
    ∷ refuses 2 3 0 mixed (eights 5) 2
    ∷ refuses 2 3 10 (replicate 5 (minus 8)) (eights 5) 3
    ∷ refuses 2 3 1 (minus 1001 ∷ pos 0 ∷ pos 0 ∷ pos 0 ∷ pos 0 ∷ pos 0 ∷ []) (eights 5) 4
    ∷ refuses 2 3 1 (pos 0 ∷ pos 0 ∷ pos 0 ∷ pos 0 ∷ pos 0 ∷ pos 1001 ∷ []) (eights 5) 4
    ∷ []
