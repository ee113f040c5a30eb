-- Literal cases of the two calls of a walk (specification, "The walk" and "Refusals"). Assumes nothing.
use Rattle.std.specs.Prelude.{List, [], ◌∷◌, ◌++◌, ℕ, length, replicate}
use Rattle.base.specs.Buffers.{written}
use Rattle.refusals.specs.Answer.{answer_number}
use Rattle.refusals.specs.Due.{answer_of, after}
use Rattle.first_rounding.specs.First.{first_rounding}
use Rattle.walk.specs.Call.{first_refusal, next_answer, next_left, step_number}

-- a table
pub record Sheet : Type 0 where
  pub rows : ℕ
  pub columns : ℕ
  pub denominator : ℕ
  pub cells : List ℕ

abbrev pub sheet : ℕ → ℕ → ℕ → List ℕ → Sheet
sheet r c d g = record { rows = r; columns = c; denominator = d; cells = g }

-- a first call: a table and a buffer; the number that it returns, and the buffer as it leaves it
pub record First : Type 0 where
  pub table : Sheet
  pub buffer : List ℕ
  pub number : ℕ
  pub result : List ℕ

abbrev pub first_says : First → List ℕ
first_says x =
    let t = x.table in
    let o = first_refusal t.rows t.columns t.denominator t.cells (length x.buffer) in
    answer_number (answer_of o) ∷ after o (written (first_rounding t.rows t.columns t.denominator t.cells) x.buffer) x.buffer

abbrev pub said_first : First → List ℕ
said_first x = x.number ∷ x.result

abbrev pub begins : Sheet → List ℕ → List ℕ → First
begins t buffer result = record { table = t; buffer = buffer; number = 0; result = result }

abbrev pub refuses_first : Sheet → List ℕ → ℕ → First
refuses_first t buffer n = record { table = t; buffer = buffer; number = n; result = buffer }

-- a second call, which is handed an array besides
pub record Step : Type 0 where
  pub table : Sheet
  pub array : List ℕ
  pub buffer : List ℕ
  pub number : ℕ
  pub result : List ℕ

abbrev pub step_says : Step → List ℕ
step_says x =
    let t = x.table in
    step_number (next_answer t.rows t.columns t.denominator t.cells x.array (length x.buffer))
    ∷ next_left t.rows t.columns t.denominator t.cells x.array x.buffer

abbrev pub said_step : Step → List ℕ
said_step x = x.number ∷ x.result

abbrev pub goes_on : Sheet → List ℕ → List ℕ → List ℕ → Step
goes_on t array buffer result = record { table = t; array = array; buffer = buffer; number = 0; result = result }

abbrev pub is_last : Sheet → List ℕ → List ℕ → Step
is_last t array buffer = record { table = t; array = array; buffer = buffer; number = 255; result = buffer }

abbrev pub refuses_step : Sheet → List ℕ → List ℕ → ℕ → Step
refuses_step t array buffer n = record { table = t; array = array; buffer = buffer; number = n; result = buffer }

-- a buffer of n counts, each 8
abbrev pub eights : ℕ → List ℕ
eights n = replicate n 8

-- three rows and three columns: Jessen's problem (document 004, Problem 2.1), which has six arrays
abbrev pub jessen : Sheet
jessen = sheet 3 3 10 (8 ∷ 5 ∷ 7 ∷ 7 ∷ 8 ∷ 5 ∷ 5 ∷ 7 ∷ 8 ∷ [])

-- the first table of the specification's examples; four arrays
abbrev pub listing : Sheet
listing = sheet 2 2 10 (3 ∷ 4 ∷ 5 ∷ 6 ∷ [])

-- two rows and three columns, with a whole cell; seven arrays
abbrev pub wide : Sheet
wide = sheet 2 3 10 (3 ∷ 4 ∷ 5 ∷ 20 ∷ 6 ∷ 7 ∷ [])

-- all cells whole
abbrev pub whole : Sheet
whole = sheet 2 2 5 (0 ∷ 5 ∷ 10 ∷ 15 ∷ [])

-- one cell, and counts above 255
abbrev pub half : Sheet
half = sheet 1 1 2 (1 ∷ [])

abbrev pub large : Sheet
large = sheet 1 2 1000 (300400 ∷ 65600 ∷ [])

-- four rows and four columns, all whole but for the last two cells
abbrev pub square : Sheet
square = sheet 4 4 2 (replicate 14 0 ++ (1 ∷ 1 ∷ []))

abbrev pub firsts : List First
firsts =
    begins jessen (eights 9) (0 ∷ 1 ∷ 1 ∷ 1 ∷ 0 ∷ 1 ∷ 1 ∷ 1 ∷ 0 ∷ [])
    ∷ begins listing (eights 4) (0 ∷ 0 ∷ 0 ∷ 1 ∷ [])
    ∷ begins wide (eights 6) (0 ∷ 0 ∷ 1 ∷ 2 ∷ 1 ∷ 0 ∷ [])
    ∷ begins whole (eights 4) (0 ∷ 1 ∷ 2 ∷ 3 ∷ [])
    ∷ begins half (eights 1) (0 ∷ [])
    ∷ begins large (eights 2) (300 ∷ 66 ∷ [])
    ∷ begins square (eights 16) (replicate 14 0 ++ (0 ∷ 1 ∷ []))
    -- what the buffer has beyond the array stays
    ∷ begins half (8 ∷ 9 ∷ 7 ∷ []) (0 ∷ 9 ∷ 7 ∷ [])
    -- 7
    ∷ refuses_first jessen (eights 8) 7
    ∷ refuses_first half [] 7
    -- 15: rows, columns, both; four of each are accepted above
    ∷ refuses_first (sheet 5 1 1 (replicate 5 0)) (eights 5) 15
    ∷ refuses_first (sheet 1 5 1 (replicate 5 0)) (eights 5) 15
    ∷ refuses_first (sheet 12 12 1 (replicate 144 0)) (eights 144) 15
    -- 1: no row, no column, more than 12, and sizes of which only the low part is within the bound
    ∷ refuses_first (sheet 0 1 1 []) (eights 1) 1
    ∷ refuses_first (sheet 1 0 1 []) (eights 1) 1
    ∷ refuses_first (sheet 13 1 1 (replicate 13 0)) (eights 13) 1
    ∷ refuses_first (sheet 1 13 1 (replicate 13 0)) (eights 13) 1
    ∷ refuses_first (sheet 257 1 1 (0 ∷ [])) (eights 1) 1
    ∷ refuses_first (sheet 1 65537 1 (0 ∷ [])) (eights 1) 1
    -- 2, 3 and 4
    ∷ refuses_first (sheet 1 1 0 (0 ∷ [])) (eights 1) 2
    ∷ refuses_first (sheet 1 1 65536 (0 ∷ [])) (eights 1) 2
    ∷ refuses_first (sheet 2 2 1 (replicate 3 0)) (eights 4) 3
    ∷ refuses_first (sheet 2 2 1 (replicate 5 0)) (eights 4) 3
    ∷ refuses_first (sheet 1 2 7 (7000 ∷ 7001 ∷ [])) (eights 2) 4
    ∷ refuses_first (sheet 1 1 65535 (4294967295 ∷ [])) (eights 1) 4
    -- 15 with each of 1, 2, 3, 4 and 7
    ∷ refuses_first (sheet 0 5 1 []) (eights 5) 1
    ∷ refuses_first (sheet 13 5 1 (replicate 65 0)) (eights 65) 1
    ∷ refuses_first (sheet 5 1 0 (replicate 5 0)) (eights 5) 15
    ∷ refuses_first (sheet 1 5 1 (replicate 4 0)) (eights 5) 15
    ∷ refuses_first (sheet 5 1 1 (1001 ∷ replicate 4 0)) (eights 5) 15
    ∷ refuses_first (sheet 1 5 1 (replicate 5 0)) (eights 4) 15
    -- 1, 2 and 3 with what comes after them
    ∷ refuses_first (sheet 13 1 0 (replicate 13 0)) (eights 13) 1
    ∷ refuses_first (sheet 2 2 0 (replicate 3 0)) (eights 4) 2
    ∷ refuses_first (sheet 2 2 1 (1001 ∷ 0 ∷ 0 ∷ [])) (eights 4) 3
    ∷ refuses_first (sheet 1 2 1 (1001 ∷ 0 ∷ [])) (eights 1) 4
    ∷ []

abbrev pub steps : List Step
steps =
    -- Jessen's problem, from the first array to the last
    goes_on jessen (0 ∷ 1 ∷ 1 ∷ 1 ∷ 0 ∷ 1 ∷ 1 ∷ 1 ∷ 0 ∷ []) (eights 9) (0 ∷ 1 ∷ 1 ∷ 1 ∷ 1 ∷ 0 ∷ 1 ∷ 0 ∷ 1 ∷ [])
    ∷ goes_on jessen (0 ∷ 1 ∷ 1 ∷ 1 ∷ 1 ∷ 0 ∷ 1 ∷ 0 ∷ 1 ∷ []) (eights 9) (1 ∷ 0 ∷ 1 ∷ 0 ∷ 1 ∷ 1 ∷ 1 ∷ 1 ∷ 0 ∷ [])
    ∷ goes_on jessen (1 ∷ 0 ∷ 1 ∷ 0 ∷ 1 ∷ 1 ∷ 1 ∷ 1 ∷ 0 ∷ []) (eights 9) (1 ∷ 0 ∷ 1 ∷ 1 ∷ 1 ∷ 0 ∷ 0 ∷ 1 ∷ 1 ∷ [])
    ∷ goes_on jessen (1 ∷ 0 ∷ 1 ∷ 1 ∷ 1 ∷ 0 ∷ 0 ∷ 1 ∷ 1 ∷ []) (eights 9) (1 ∷ 1 ∷ 0 ∷ 0 ∷ 1 ∷ 1 ∷ 1 ∷ 0 ∷ 1 ∷ [])
    ∷ goes_on jessen (1 ∷ 1 ∷ 0 ∷ 0 ∷ 1 ∷ 1 ∷ 1 ∷ 0 ∷ 1 ∷ []) (eights 9) (1 ∷ 1 ∷ 0 ∷ 1 ∷ 0 ∷ 1 ∷ 0 ∷ 1 ∷ 1 ∷ [])
    ∷ is_last jessen (1 ∷ 1 ∷ 0 ∷ 1 ∷ 0 ∷ 1 ∷ 0 ∷ 1 ∷ 1 ∷ []) (eights 9)
    -- the walk of the specification's examples, with 7 at its last array and 16 for arrays that are none of it
    ∷ goes_on listing (0 ∷ 0 ∷ 0 ∷ 1 ∷ []) (eights 4) (0 ∷ 0 ∷ 1 ∷ 1 ∷ [])
    ∷ goes_on listing (0 ∷ 0 ∷ 1 ∷ 1 ∷ []) (eights 4) (0 ∷ 1 ∷ 1 ∷ 0 ∷ [])
    ∷ goes_on listing (0 ∷ 1 ∷ 1 ∷ 0 ∷ []) (eights 4) (1 ∷ 0 ∷ 0 ∷ 1 ∷ [])
    ∷ is_last listing (1 ∷ 0 ∷ 0 ∷ 1 ∷ []) (eights 4)
    ∷ refuses_step listing (1 ∷ 0 ∷ 0 ∷ 1 ∷ []) (eights 3) 7
    ∷ refuses_step listing (0 ∷ 0 ∷ 0 ∷ 0 ∷ []) (eights 4) 16
    ∷ refuses_step listing (0 ∷ 0 ∷ 0 ∷ []) (eights 4) 16
    -- rows and columns not equally many, with a whole cell
    ∷ goes_on wide (0 ∷ 0 ∷ 1 ∷ 2 ∷ 1 ∷ 0 ∷ []) (eights 6) (0 ∷ 0 ∷ 1 ∷ 2 ∷ 1 ∷ 1 ∷ [])
    ∷ goes_on wide (0 ∷ 0 ∷ 1 ∷ 2 ∷ 1 ∷ 1 ∷ []) (eights 6) (0 ∷ 1 ∷ 0 ∷ 2 ∷ 0 ∷ 1 ∷ [])
    ∷ goes_on wide (0 ∷ 1 ∷ 0 ∷ 2 ∷ 0 ∷ 1 ∷ []) (eights 6) (0 ∷ 1 ∷ 1 ∷ 2 ∷ 0 ∷ 1 ∷ [])
    ∷ goes_on wide (0 ∷ 1 ∷ 1 ∷ 2 ∷ 0 ∷ 1 ∷ []) (eights 6) (1 ∷ 0 ∷ 0 ∷ 2 ∷ 1 ∷ 1 ∷ [])
    ∷ goes_on wide (1 ∷ 0 ∷ 0 ∷ 2 ∷ 1 ∷ 1 ∷ []) (eights 6) (1 ∷ 0 ∷ 1 ∷ 2 ∷ 1 ∷ 0 ∷ [])
    ∷ goes_on wide (1 ∷ 0 ∷ 1 ∷ 2 ∷ 1 ∷ 0 ∷ []) (eights 6) (1 ∷ 1 ∷ 0 ∷ 2 ∷ 0 ∷ 1 ∷ [])
    ∷ is_last wide (1 ∷ 1 ∷ 0 ∷ 2 ∷ 0 ∷ 1 ∷ []) (eights 6)
    -- all cells whole: the first is the last
    ∷ is_last whole (0 ∷ 1 ∷ 2 ∷ 3 ∷ []) (eights 4)
    -- one cell, not whole and whole
    ∷ goes_on half (0 ∷ []) (eights 1) (1 ∷ [])
    ∷ is_last half (1 ∷ []) (eights 1)
    ∷ is_last (sheet 1 1 2 (2 ∷ [])) (1 ∷ []) (eights 1)
    -- counts above 255, and the largest
    ∷ goes_on large (300 ∷ 66 ∷ []) (eights 2) (301 ∷ 65 ∷ [])
    ∷ is_last large (301 ∷ 65 ∷ []) (eights 2)
    ∷ is_last (sheet 1 1 65535 (65535000 ∷ [])) (1000 ∷ []) (eights 1)
    ∷ goes_on (sheet 1 1 65535 (65534999 ∷ [])) (999 ∷ []) (eights 1) (1000 ∷ [])
    -- four by four
    ∷ goes_on square (replicate 14 0 ++ (0 ∷ 1 ∷ [])) (eights 16) (replicate 14 0 ++ (1 ∷ 0 ∷ []))
    -- what the buffer has beyond the array stays, and all of it at the last
    ∷ goes_on half (0 ∷ []) (8 ∷ 9 ∷ 7 ∷ []) (1 ∷ 9 ∷ 7 ∷ [])
    ∷ is_last half (1 ∷ []) (8 ∷ 9 ∷ 7 ∷ [])
    -- 16: each array breaks one entry alone: a cell, a whole cell, a row, a column, the grand total
    ∷ refuses_step wide (0 ∷ 0 ∷ 2 ∷ 2 ∷ 1 ∷ 0 ∷ []) (eights 6) 16
    ∷ refuses_step wide (0 ∷ 0 ∷ 1 ∷ 3 ∷ 1 ∷ 0 ∷ []) (eights 6) 16
    ∷ refuses_step wide (0 ∷ 0 ∷ 0 ∷ 2 ∷ 1 ∷ 1 ∷ []) (eights 6) 16
    ∷ refuses_step wide (1 ∷ 0 ∷ 0 ∷ 2 ∷ 1 ∷ 0 ∷ []) (eights 6) 16
    ∷ refuses_step wide (1 ∷ 0 ∷ 1 ∷ 2 ∷ 1 ∷ 1 ∷ []) (eights 6) 16
    -- counts of which only the low part is right
    ∷ refuses_step half (256 ∷ []) (eights 1) 16
    ∷ refuses_step large (44 ∷ 66 ∷ []) (eights 2) 16
    -- one count too few, one too many, none
    ∷ refuses_step wide (0 ∷ 0 ∷ 1 ∷ 2 ∷ 1 ∷ []) (eights 6) 16
    ∷ refuses_step wide (0 ∷ 0 ∷ 1 ∷ 2 ∷ 1 ∷ 0 ∷ 0 ∷ []) (eights 6) 16
    ∷ refuses_step half [] (eights 1) 16
    -- 7: at an array that is not the last, and at the last
    ∷ refuses_step wide (0 ∷ 0 ∷ 1 ∷ 2 ∷ 1 ∷ 0 ∷ []) (eights 5) 7
    ∷ refuses_step wide (1 ∷ 1 ∷ 0 ∷ 2 ∷ 0 ∷ 1 ∷ []) (eights 5) 7
    ∷ refuses_step whole (0 ∷ 1 ∷ 2 ∷ 3 ∷ []) [] 7
    -- 16 and 7
    ∷ refuses_step wide (0 ∷ 0 ∷ 2 ∷ 2 ∷ 1 ∷ 0 ∷ []) (eights 5) 16
    ∷ refuses_step wide (0 ∷ 0 ∷ 1 ∷ 2 ∷ 1 ∷ []) (eights 5) 16
    -- 1, 15, 2, 3 and 4, the array handed in a controlled rounding of the cells where there is one
    ∷ refuses_step (sheet 0 1 1 []) [] [] 1
    ∷ refuses_step (sheet 1 13 1 (replicate 13 0)) (replicate 13 0) (eights 13) 1
    ∷ refuses_step (sheet 257 1 1 (0 ∷ [])) (0 ∷ []) (eights 1) 1
    ∷ refuses_step (sheet 5 1 1 (replicate 5 0)) (replicate 5 0) (eights 5) 15
    ∷ refuses_step (sheet 1 5 1 (replicate 5 0)) (replicate 5 0) (eights 5) 15
    ∷ refuses_step (sheet 1 1 0 (0 ∷ [])) (0 ∷ []) (eights 1) 2
    ∷ refuses_step (sheet 2 2 1 (replicate 3 0)) (replicate 3 0) (eights 4) 3
    ∷ refuses_step (sheet 1 1 1 (1001 ∷ [])) (1001 ∷ []) (eights 1) 4
    -- 15 with each of 1, 2, 3, 4, 16 and 7
    ∷ refuses_step (sheet 0 5 1 []) [] (eights 5) 1
    ∷ refuses_step (sheet 5 1 0 (replicate 5 0)) (replicate 5 0) (eights 5) 15
    ∷ refuses_step (sheet 1 5 1 (replicate 4 0)) (replicate 5 0) (eights 5) 15
    ∷ refuses_step (sheet 5 1 1 (1001 ∷ replicate 4 0)) (1001 ∷ replicate 4 0) (eights 5) 15
    ∷ refuses_step (sheet 5 1 1 (replicate 5 0)) (1 ∷ replicate 4 0) (eights 5) 15
    ∷ refuses_step (sheet 1 5 1 (replicate 5 0)) (replicate 5 0) (eights 4) 15
    -- 2, 3 and 4 with 16 and 7
    ∷ refuses_step (sheet 1 1 0 (0 ∷ [])) (1 ∷ []) [] 2
    ∷ refuses_step (sheet 2 2 1 (replicate 3 0)) (replicate 4 0) (eights 3) 3
    ∷ refuses_step (sheet 1 1 1 (1001 ∷ [])) (0 ∷ []) [] 4
    ∷ []
