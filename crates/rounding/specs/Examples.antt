-- Literal cases of the call "rounding" (specification, "The rounding" and "Refusals"). Assumes nothing.
use Rattle.std.specs.Prelude.{List, [], ◌∷◌, ℕ, length, replicate}
use Rattle.base.specs.Buffers.{written}
use Rattle.refusals.specs.Answer.{answer_number}
use Rattle.refusals.specs.Due.{answer_of, after}
use Rattle.is_rounding.specs.Examples.{table}
use Rattle.first_rounding.specs.First.{first_rounding}
use Rattle.rounding.specs.Call.{round_refusal}

-- a call: a table and a buffer; the number that it returns, and the buffer as it leaves it
pub record Round : Type 0 where
  pub rows : ℕ
  pub columns : ℕ
  pub denominator : ℕ
  pub cells : List ℕ
  pub buffer : List ℕ
  pub number : ℕ
  pub result : List ℕ

abbrev pub rounded : Round → List ℕ
rounded x =
    let o = round_refusal x.rows x.columns x.denominator x.cells (length x.buffer) in
    answer_number (answer_of o) ∷ after o (written (first_rounding x.rows x.columns x.denominator x.cells) x.buffer) x.buffer

abbrev pub said : Round → List ℕ
said x = x.number ∷ x.result

abbrev pub rounds : ℕ → ℕ → ℕ → List ℕ → List ℕ → List ℕ → Round
rounds r c d g buffer result = record { rows = r; columns = c; denominator = d; cells = g; buffer = buffer; number = 0; result = result }

abbrev pub refuses : ℕ → ℕ → ℕ → List ℕ → List ℕ → ℕ → Round
refuses r c d g buffer n = record { rows = r; columns = c; denominator = d; cells = g; buffer = buffer; number = n; result = buffer }

abbrev pub six : List ℕ
six = 8 ∷ 8 ∷ 8 ∷ 8 ∷ 8 ∷ 8 ∷ []

abbrev pub five : List ℕ
five = 8 ∷ 8 ∷ 8 ∷ 8 ∷ 8 ∷ []

abbrev pub round_cases : List Round
round_cases =
    rounds 2 3 10 table six (0 ∷ 0 ∷ 1 ∷ 2 ∷ 1 ∷ 0 ∷ [])
    -- what the buffer has beyond the array stays
    ∷ rounds 1 2 4 (4 ∷ 6 ∷ []) (8 ∷ 8 ∷ 9 ∷ 7 ∷ []) (1 ∷ 1 ∷ 9 ∷ 7 ∷ [])
    ∷ rounds 1 2 4 (4 ∷ 6 ∷ []) (replicate 256 8) (1 ∷ 1 ∷ replicate 254 8)
    -- counts above 255
    ∷ rounds 2 3 1000 (300400 ∷ 70 ∷ 65936 ∷ 1500 ∷ 260 ∷ 999 ∷ []) six (300 ∷ 0 ∷ 66 ∷ 1 ∷ 1 ∷ 1 ∷ [])
    -- the largest denominator, cell and count
    ∷ rounds 1 1 65535 (65535000 ∷ []) (8 ∷ []) (1000 ∷ [])
    -- rows, columns, denominators and cells of which only the low part is within the bounds
    ∷ refuses 257 1 1 (0 ∷ []) (8 ∷ []) 1
    ∷ refuses 65537 1 1 (0 ∷ []) (8 ∷ []) 1
    ∷ refuses 1 257 1 (0 ∷ []) (8 ∷ []) 1
    ∷ refuses 1 65537 1 (0 ∷ []) (8 ∷ []) 1
    ∷ refuses 1 1 65537 (0 ∷ []) (8 ∷ []) 2
    ∷ refuses 1 1 1 (65536 ∷ []) (8 ∷ []) 4
    -- 7 alone, and with each of 1, 2, 3 and 4
    ∷ refuses 2 3 10 table five 7
    ∷ refuses 2 3 10 table [] 7
    ∷ refuses 13 1 1 (replicate 13 0) five 1
    ∷ refuses 2 3 0 table five 2
    ∷ refuses 2 3 10 five five 3
    ∷ refuses 2 3 1 (1001 ∷ 0 ∷ 0 ∷ 0 ∷ 0 ∷ 0 ∷ []) five 4
    ∷ []
