-- Literal cases of the call "plan" (specification, "Stored plan, form 1" and "Refusals"); its bytes are typed out. Assumes nothing.
use Rattle.std.specs.Prelude.{List, [], ◌∷◌, ◌++◌, ℕ, length, replicate}
use Rattle.base.specs.Buffers.{written}
use Rattle.refusals.specs.Due.{after}
use Rattle.form.specs.Examples.{wide, largest}
use Rattle.plan.specs.Call.{plan_bytes, plan_refusal, plan_answer, planned_number}

-- a call: a table and a buffer; the number that it returns, and the buffer as it leaves it
pub record Call : Type 0 where
  pub rows : ℕ
  pub columns : ℕ
  pub denominator : ℕ
  pub cells : List ℕ
  pub buffer : List ℕ
  pub number : ℕ
  pub result : List ℕ

abbrev pub planned : Call → List ℕ
planned x =
    let room = length x.buffer in
    let o = plan_refusal x.rows x.columns x.denominator x.cells room in
    planned_number (plan_answer x.rows x.columns x.denominator x.cells room)
    ∷ after o (written (plan_bytes x.rows x.columns x.denominator x.cells) x.buffer) x.buffer

abbrev pub said : Call → List ℕ
said x = x.number ∷ x.result

abbrev pub plans : ℕ → ℕ → ℕ → List ℕ → List ℕ → ℕ → List ℕ → Call
plans r c d g buffer n result = record { rows = r; columns = c; denominator = d; cells = g; buffer = buffer; number = n; result = result }

abbrev pub refuses : ℕ → ℕ → ℕ → List ℕ → List ℕ → ℕ → Call
refuses r c d g buffer n = plans r c d g buffer n buffer

-- the table whose plan `wide` is
abbrev pub wide_cells : List ℕ
wide_cells = 300400 ∷ 70 ∷ 65936 ∷ 1500 ∷ 260 ∷ 999 ∷ []

-- three by three over 10, with eight arrays: 260 bytes
abbrev pub long_cells : List ℕ
long_cells = 6 ∷ 9 ∷ 10 ∷ 6 ∷ 4 ∷ 5 ∷ 6 ∷ 6 ∷ 9 ∷ []

-- its plan
abbrev pub long : List ℕ
long =
    -- form, r, c, K, zero
    1 ∷ 0 ∷ 3 ∷ 3 ∷ 8 ∷ 0 ∷ 0 ∷ 0
    -- D and the offset of the table
    ∷ 10 ∷ 0 ∷ 0 ∷ 0 ∷ 80 ∷ 0 ∷ 0 ∷ 0
    -- weight and offset of each array
    ∷ 1 ∷ 0 ∷ 0 ∷ 0 ∷ 116 ∷ 0 ∷ 0 ∷ 0
    ∷ 1 ∷ 0 ∷ 0 ∷ 0 ∷ 134 ∷ 0 ∷ 0 ∷ 0
    ∷ 1 ∷ 0 ∷ 0 ∷ 0 ∷ 152 ∷ 0 ∷ 0 ∷ 0
    ∷ 1 ∷ 0 ∷ 0 ∷ 0 ∷ 170 ∷ 0 ∷ 0 ∷ 0
    ∷ 1 ∷ 0 ∷ 0 ∷ 0 ∷ 188 ∷ 0 ∷ 0 ∷ 0
    ∷ 2 ∷ 0 ∷ 0 ∷ 0 ∷ 206 ∷ 0 ∷ 0 ∷ 0
    ∷ 2 ∷ 0 ∷ 0 ∷ 0 ∷ 224 ∷ 0 ∷ 0 ∷ 0
    ∷ 1 ∷ 0 ∷ 0 ∷ 0 ∷ 242 ∷ 0 ∷ 0 ∷ 0
    -- the table
    ∷ 6 ∷ 0 ∷ 0 ∷ 0 ∷ 9 ∷ 0 ∷ 0 ∷ 0 ∷ 10 ∷ 0 ∷ 0 ∷ 0 ∷ 6 ∷ 0 ∷ 0 ∷ 0 ∷ 4 ∷ 0 ∷ 0 ∷ 0 ∷ 5 ∷ 0 ∷ 0 ∷ 0 ∷ 6 ∷ 0 ∷ 0 ∷ 0 ∷ 6 ∷ 0 ∷ 0 ∷ 0 ∷ 9 ∷ 0 ∷ 0 ∷ 0
    -- the arrays
    ∷ 0 ∷ 0 ∷ 1 ∷ 0 ∷ 1 ∷ 0 ∷ 0 ∷ 0 ∷ 0 ∷ 0 ∷ 1 ∷ 0 ∷ 1 ∷ 0 ∷ 1 ∷ 0 ∷ 1 ∷ 0
    ∷ 0 ∷ 0 ∷ 1 ∷ 0 ∷ 1 ∷ 0 ∷ 0 ∷ 0 ∷ 1 ∷ 0 ∷ 1 ∷ 0 ∷ 1 ∷ 0 ∷ 0 ∷ 0 ∷ 1 ∷ 0
    ∷ 0 ∷ 0 ∷ 1 ∷ 0 ∷ 1 ∷ 0 ∷ 1 ∷ 0 ∷ 0 ∷ 0 ∷ 1 ∷ 0 ∷ 1 ∷ 0 ∷ 0 ∷ 0 ∷ 1 ∷ 0
    ∷ 0 ∷ 0 ∷ 1 ∷ 0 ∷ 1 ∷ 0 ∷ 1 ∷ 0 ∷ 0 ∷ 0 ∷ 1 ∷ 0 ∷ 1 ∷ 0 ∷ 1 ∷ 0 ∷ 0 ∷ 0
    ∷ 1 ∷ 0 ∷ 0 ∷ 0 ∷ 1 ∷ 0 ∷ 1 ∷ 0 ∷ 1 ∷ 0 ∷ 0 ∷ 0 ∷ 0 ∷ 0 ∷ 1 ∷ 0 ∷ 1 ∷ 0
    ∷ 1 ∷ 0 ∷ 1 ∷ 0 ∷ 1 ∷ 0 ∷ 0 ∷ 0 ∷ 1 ∷ 0 ∷ 0 ∷ 0 ∷ 1 ∷ 0 ∷ 0 ∷ 0 ∷ 1 ∷ 0
    ∷ 1 ∷ 0 ∷ 1 ∷ 0 ∷ 1 ∷ 0 ∷ 1 ∷ 0 ∷ 0 ∷ 0 ∷ 0 ∷ 0 ∷ 0 ∷ 0 ∷ 1 ∷ 0 ∷ 1 ∷ 0
    ∷ 1 ∷ 0 ∷ 1 ∷ 0 ∷ 1 ∷ 0 ∷ 1 ∷ 0 ∷ 0 ∷ 0 ∷ 1 ∷ 0 ∷ 0 ∷ 0 ∷ 1 ∷ 0 ∷ 1 ∷ 0 ∷ []

abbrev pub calls : List Call
calls =
    -- a buffer of just the length; one that is longer, whose rest stays; one byte less: 7
    plans 2 3 1000 wide_cells (replicate 180 9) 180 wide
    ∷ plans 2 3 1000 wide_cells (replicate 183 9) 180 (wide ++ (9 ∷ 9 ∷ 9 ∷ []))
    ∷ refuses 2 3 1000 wide_cells (replicate 179 9) 7
    -- a buffer of 256 bytes
    ∷ plans 2 3 1000 wide_cells (replicate 256 9) 180 (wide ++ replicate 76 9)
    -- a plan of 260 bytes, a byte less, and 4 bytes
    ∷ plans 3 3 10 long_cells (replicate 260 9) 260 long
    ∷ refuses 3 3 10 long_cells (replicate 259 9) 7
    ∷ refuses 3 3 10 long_cells (replicate 4 9) 7
    -- the largest denominator and cell; a byte less: 7
    ∷ plans 1 1 65535 (65535000 ∷ []) (replicate 30 9) 30 largest
    ∷ refuses 1 1 65535 (65535000 ∷ []) (replicate 29 9) 7
    -- rows, columns, denominators and cells of which only the low part is within the bounds
    ∷ refuses 257 1 1 (0 ∷ []) (replicate 30 9) 1
    ∷ refuses 65537 1 1 (0 ∷ []) (replicate 30 9) 1
    ∷ refuses 1 257 1 (0 ∷ []) (replicate 30 9) 1
    ∷ refuses 1 65537 1 (0 ∷ []) (replicate 30 9) 1
    ∷ refuses 1 1 65537 (0 ∷ []) (replicate 30 9) 2
    ∷ refuses 1 1 1 (65536 ∷ []) (replicate 30 9) 4
    -- 7 with each of 1, 2, 3 and 4
    ∷ refuses 13 1 1 (replicate 13 0) [] 1
    ∷ refuses 1 1 0 (0 ∷ []) (replicate 29 9) 2
    ∷ refuses 2 3 1 (replicate 5 0) (replicate 29 9) 3
    ∷ refuses 1 1 1 (1001 ∷ []) (replicate 29 9) 4
    ∷ []
