-- Literal cases of the call that writes which entry set a weight (specification, "Which entry set the weight" and "Refusals"). Assumes nothing.
use Rattle.std.specs.Prelude.{List, [], ◌∷◌, ℕ, length, replicate}
use Rattle.base.specs.Buffers.{written}
use Rattle.refusals.specs.Answer.{answer_number}
use Rattle.refusals.specs.Due.{answer_of, after}
use Rattle.reasons.specs.Call.{reason_answer}
use Rattle.reason_numbers.specs.Numbers.{reason_numbers, reply_refusal}

-- a call: a table, an array number and a buffer; the number that it returns, and the buffer as it leaves it
pub record Call : Type 0 where
  pub rows : ℕ
  pub columns : ℕ
  pub denominator : ℕ
  pub cells : List ℕ
  pub array : ℕ
  pub buffer : List ℕ
  pub number : ℕ
  pub result : List ℕ

abbrev pub replied : Call → List ℕ
replied x =
    let o = reply_refusal x.rows x.columns x.denominator x.cells x.array (length x.buffer) in
    let a = reason_answer x.rows x.columns x.denominator x.cells x.array in
    answer_number (answer_of o) ∷ after o (written (reason_numbers a) x.buffer) x.buffer

abbrev pub said : Call → List ℕ
said x = x.number ∷ x.result

abbrev pub tells : ℕ → ℕ → ℕ → List ℕ → ℕ → List ℕ → Call
tells r c d g k result =
    record { rows = r; columns = c; denominator = d; cells = g; array = k; buffer = 8 ∷ 8 ∷ 8 ∷ 8 ∷ []; number = 0; result = result }

abbrev pub refuses : ℕ → ℕ → ℕ → List ℕ → ℕ → List ℕ → ℕ → Call
refuses r c d g k buffer n = record { rows = r; columns = c; denominator = d; cells = g; array = k; buffer = buffer; number = n; result = buffer }

-- two by two over 10, with arrays of the weights 2, 1, 4 and 3
abbrev pub small : List ℕ
small = 3 ∷ 4 ∷ 5 ∷ 6 ∷ []

abbrev pub calls : List Call
calls =
    -- a plan of four arrays: the total of column 1, which comes before the grand total; the total of row 1, before that of row 2; the first cell, before the
    -- other three; and all whole
    tells 2 2 10 small 1 (3 ∷ 0 ∷ 1 ∷ 1 ∷ [])
    ∷ tells 2 2 10 small 2 (2 ∷ 1 ∷ 0 ∷ 1 ∷ [])
    ∷ tells 2 2 10 small 3 (1 ∷ 1 ∷ 1 ∷ 1 ∷ [])
    ∷ tells 2 2 10 small 4 (1 ∷ 1 ∷ 1 ∷ 0 ∷ [])
    -- the cell in row 1 and column 2 before that in row 2 and column 1
    ∷ tells 3 3 2 (0 ∷ 1 ∷ 1 ∷ 1 ∷ 0 ∷ 1 ∷ 1 ∷ 1 ∷ 0 ∷ []) 1 (1 ∷ 1 ∷ 2 ∷ 1 ∷ [])
    -- the total of row 2 before that of column 1 and the grand total
    ∷ tells 2 2 3 (1 ∷ 2 ∷ 1 ∷ 4 ∷ []) 1 (2 ∷ 2 ∷ 0 ∷ 1 ∷ [])
    -- the grand total alone
    ∷ tells 2 2 3 (4 ∷ 0 ∷ 0 ∷ 4 ∷ []) 1 (4 ∷ 0 ∷ 0 ∷ 1 ∷ [])
    -- rounded up: a cell, a row total, a column total, the grand total
    ∷ tells 1 3 3 (4 ∷ 4 ∷ 1 ∷ []) 1 (1 ∷ 1 ∷ 3 ∷ 2 ∷ [])
    ∷ tells 2 3 4 (2 ∷ 5 ∷ 6 ∷ 6 ∷ 3 ∷ 0 ∷ []) 1 (2 ∷ 2 ∷ 0 ∷ 2 ∷ [])
    ∷ tells 2 3 4 (0 ∷ 5 ∷ 3 ∷ 2 ∷ 5 ∷ 6 ∷ []) 1 (3 ∷ 0 ∷ 3 ∷ 2 ∷ [])
    ∷ tells 3 4 4 (2 ∷ 2 ∷ 2 ∷ 2 ∷ 0 ∷ 2 ∷ 0 ∷ 0 ∷ 3 ∷ 0 ∷ 0 ∷ 0 ∷ []) 1 (4 ∷ 0 ∷ 0 ∷ 2 ∷ [])
    -- a table whose entries are all whole has one array
    ∷ tells 1 1 5 (10 ∷ []) 1 (1 ∷ 1 ∷ 1 ∷ 0 ∷ [])
    ∷ refuses 1 1 5 (10 ∷ []) 2 (8 ∷ 8 ∷ 8 ∷ 8 ∷ []) 14
    -- a longer buffer, whose rest stays, and one of three numbers: 7
    ∷ record { rows = 2; columns = 2; denominator = 10; cells = small; array = 1; buffer = 8 ∷ 8 ∷ 8 ∷ 8 ∷ 9 ∷ []; number = 0; result = 3 ∷ 0 ∷ 1 ∷ 1 ∷ 9 ∷ [] }
    ∷ refuses 2 2 10 small 1 (8 ∷ 8 ∷ 8 ∷ []) 7
    -- a buffer of 256 numbers
    ∷ record {
      rows = 1;
      columns = 1;
      denominator = 5;
      cells = 10 ∷ [];
      array = 1;
      buffer = replicate 256 8;
      number = 0;
      result = 1 ∷ 1 ∷ 1 ∷ 0 ∷ replicate 252 8;
    }
    -- 14: array 0, one above the last, and the largest number
    ∷ refuses 2 2 10 small 0 (8 ∷ 8 ∷ 8 ∷ 8 ∷ []) 14
    ∷ refuses 2 2 10 small 5 (8 ∷ 8 ∷ 8 ∷ 8 ∷ []) 14
    ∷ refuses 2 2 10 small 4294967295 (8 ∷ 8 ∷ 8 ∷ 8 ∷ []) 14
    -- numbers of which only the low part is a number of an array
    ∷ refuses 2 2 10 small 257 (8 ∷ 8 ∷ 8 ∷ 8 ∷ []) 14
    ∷ refuses 2 2 10 small 65537 (8 ∷ 8 ∷ 8 ∷ 8 ∷ []) 14
    ∷ refuses 2 2 10 small 16777217 (8 ∷ 8 ∷ 8 ∷ 8 ∷ []) 14
    ∷ refuses 2 2 10 small 2147483649 (8 ∷ 8 ∷ 8 ∷ 8 ∷ []) 14
    -- with 7
    ∷ refuses 2 2 10 small 5 (8 ∷ 8 ∷ 8 ∷ []) 14
    -- 1, 2, 3 and 4, each with 14 and 7
    ∷ refuses 13 1 1 (replicate 13 0) 0 [] 1
    ∷ refuses 1 1 0 (0 ∷ []) 0 [] 2
    ∷ refuses 2 3 1 (replicate 5 0) 0 [] 3
    ∷ refuses 1 1 1 (1001 ∷ []) 0 [] 4
    -- and with 7 alone
    ∷ refuses 1 1 1 (1001 ∷ []) 1 [] 4
    -- rows, columns, denominators and cells of which only the low part is within the bounds
    ∷ refuses 257 1 1 (0 ∷ []) 1 (8 ∷ 8 ∷ 8 ∷ 8 ∷ []) 1
    ∷ refuses 65537 1 1 (0 ∷ []) 1 (8 ∷ 8 ∷ 8 ∷ 8 ∷ []) 1
    ∷ refuses 1 257 1 (0 ∷ []) 1 (8 ∷ 8 ∷ 8 ∷ 8 ∷ []) 1
    ∷ refuses 1 65537 1 (0 ∷ []) 1 (8 ∷ 8 ∷ 8 ∷ 8 ∷ []) 1
    ∷ refuses 1 1 65537 (0 ∷ []) 1 (8 ∷ 8 ∷ 8 ∷ 8 ∷ []) 2
    ∷ refuses 1 1 1 (65536 ∷ []) 1 (8 ∷ 8 ∷ 8 ∷ 8 ∷ []) 4
    ∷ []
