-- Plans that open, and for each condition of opening some that fail it (specification, "Stored plan, form 1" and "Refusals"). The bytes are typed out,
-- and no definition of this project builds them. Assumes nothing.
use Rattle.std.specs.Prelude.{List, [], ◌∷◌, ◌++◌, ℕ, ◌+◌, ◌*◌, ◌/◌, ◌%◌, set, take, replicate}
use Rattle.base.specs.Lists.{join_to}
use Rattle.refusals.specs.Answer.{answer_number}
use Rattle.refusals.specs.Due.{answer_of}
use Rattle.form.specs.Examples.{square, wide, recurring, largest}
use Rattle.opening.specs.Open.{open_answer, part_refusal}

-- one cell 2 over D 3: equal arrays recur, in any order
abbrev pub three_ones : List ℕ
three_ones =
    1 ∷ 0 ∷ 1 ∷ 1 ∷ 3 ∷ 0 ∷ 0 ∷ 0
    ∷ 3 ∷ 0 ∷ 0 ∷ 0 ∷ 40 ∷ 0 ∷ 0 ∷ 0
    ∷ 1 ∷ 0 ∷ 0 ∷ 0 ∷ 44 ∷ 0 ∷ 0 ∷ 0
    ∷ 1 ∷ 0 ∷ 0 ∷ 0 ∷ 46 ∷ 0 ∷ 0 ∷ 0
    ∷ 1 ∷ 0 ∷ 0 ∷ 0 ∷ 48 ∷ 0 ∷ 0 ∷ 0
    ∷ 2 ∷ 0 ∷ 0 ∷ 0
    ∷ 1 ∷ 0
    ∷ 0 ∷ 0
    ∷ 1 ∷ 0 ∷ []

-- a university's plan, D 2, cells 1 0 0 1: every cell, row and column keeps its bounds, and the grand total is 0 in one array and 2 in the other where 1
-- is planned
abbrev pub swinging : List ℕ
swinging =
    1 ∷ 0 ∷ 2 ∷ 2 ∷ 2 ∷ 0 ∷ 0 ∷ 0
    ∷ 2 ∷ 0 ∷ 0 ∷ 0 ∷ 32 ∷ 0 ∷ 0 ∷ 0
    ∷ 1 ∷ 0 ∷ 0 ∷ 0 ∷ 48 ∷ 0 ∷ 0 ∷ 0
    ∷ 1 ∷ 0 ∷ 0 ∷ 0 ∷ 56 ∷ 0 ∷ 0 ∷ 0
    ∷ 1 ∷ 0 ∷ 0 ∷ 0 ∷ 0 ∷ 0 ∷ 0 ∷ 0 ∷ 0 ∷ 0 ∷ 0 ∷ 0 ∷ 1 ∷ 0 ∷ 0 ∷ 0
    ∷ 0 ∷ 0 ∷ 0 ∷ 0 ∷ 0 ∷ 0 ∷ 0 ∷ 0
    ∷ 1 ∷ 0 ∷ 0 ∷ 0 ∷ 0 ∷ 0 ∷ 1 ∷ 0 ∷ []

-- D 2, cells 1 1 1 0: the grand total, 3 over 2, is 1 in one array and 2 in the other
abbrev pub grand_varies : List ℕ
grand_varies =
    1 ∷ 0 ∷ 2 ∷ 2 ∷ 2 ∷ 0 ∷ 0 ∷ 0
    ∷ 2 ∷ 0 ∷ 0 ∷ 0 ∷ 32 ∷ 0 ∷ 0 ∷ 0
    ∷ 1 ∷ 0 ∷ 0 ∷ 0 ∷ 48 ∷ 0 ∷ 0 ∷ 0
    ∷ 1 ∷ 0 ∷ 0 ∷ 0 ∷ 56 ∷ 0 ∷ 0 ∷ 0
    ∷ 1 ∷ 0 ∷ 0 ∷ 0 ∷ 1 ∷ 0 ∷ 0 ∷ 0 ∷ 1 ∷ 0 ∷ 0 ∷ 0 ∷ 0 ∷ 0 ∷ 0 ∷ 0
    ∷ 1 ∷ 0 ∷ 0 ∷ 0 ∷ 0 ∷ 0 ∷ 0 ∷ 0
    ∷ 0 ∷ 0 ∷ 1 ∷ 0 ∷ 1 ∷ 0 ∷ 0 ∷ 0 ∷ []

-- D 2, all cells 2: the cells vary though each is whole, rows and columns do not
abbrev pub cells_vary : List ℕ
cells_vary =
    1 ∷ 0 ∷ 2 ∷ 2 ∷ 2 ∷ 0 ∷ 0 ∷ 0
    ∷ 2 ∷ 0 ∷ 0 ∷ 0 ∷ 32 ∷ 0 ∷ 0 ∷ 0
    ∷ 1 ∷ 0 ∷ 0 ∷ 0 ∷ 48 ∷ 0 ∷ 0 ∷ 0
    ∷ 1 ∷ 0 ∷ 0 ∷ 0 ∷ 56 ∷ 0 ∷ 0 ∷ 0
    ∷ 2 ∷ 0 ∷ 0 ∷ 0 ∷ 2 ∷ 0 ∷ 0 ∷ 0 ∷ 2 ∷ 0 ∷ 0 ∷ 0 ∷ 2 ∷ 0 ∷ 0 ∷ 0
    ∷ 2 ∷ 0 ∷ 0 ∷ 0 ∷ 0 ∷ 0 ∷ 2 ∷ 0
    ∷ 0 ∷ 0 ∷ 2 ∷ 0 ∷ 2 ∷ 0 ∷ 0 ∷ 0 ∷ []

-- D 2, all cells 1: the rows vary though each is whole
abbrev pub rows_vary : List ℕ
rows_vary =
    1 ∷ 0 ∷ 2 ∷ 2 ∷ 2 ∷ 0 ∷ 0 ∷ 0
    ∷ 2 ∷ 0 ∷ 0 ∷ 0 ∷ 32 ∷ 0 ∷ 0 ∷ 0
    ∷ 1 ∷ 0 ∷ 0 ∷ 0 ∷ 48 ∷ 0 ∷ 0 ∷ 0
    ∷ 1 ∷ 0 ∷ 0 ∷ 0 ∷ 56 ∷ 0 ∷ 0 ∷ 0
    ∷ 1 ∷ 0 ∷ 0 ∷ 0 ∷ 1 ∷ 0 ∷ 0 ∷ 0 ∷ 1 ∷ 0 ∷ 0 ∷ 0 ∷ 1 ∷ 0 ∷ 0 ∷ 0
    ∷ 1 ∷ 0 ∷ 1 ∷ 0 ∷ 0 ∷ 0 ∷ 0 ∷ 0
    ∷ 0 ∷ 0 ∷ 0 ∷ 0 ∷ 1 ∷ 0 ∷ 1 ∷ 0 ∷ []

-- the columns vary
abbrev pub columns_vary : List ℕ
columns_vary =
    1 ∷ 0 ∷ 2 ∷ 2 ∷ 2 ∷ 0 ∷ 0 ∷ 0
    ∷ 2 ∷ 0 ∷ 0 ∷ 0 ∷ 32 ∷ 0 ∷ 0 ∷ 0
    ∷ 1 ∷ 0 ∷ 0 ∷ 0 ∷ 48 ∷ 0 ∷ 0 ∷ 0
    ∷ 1 ∷ 0 ∷ 0 ∷ 0 ∷ 56 ∷ 0 ∷ 0 ∷ 0
    ∷ 1 ∷ 0 ∷ 0 ∷ 0 ∷ 1 ∷ 0 ∷ 0 ∷ 0 ∷ 1 ∷ 0 ∷ 0 ∷ 0 ∷ 1 ∷ 0 ∷ 0 ∷ 0
    ∷ 1 ∷ 0 ∷ 0 ∷ 0 ∷ 1 ∷ 0 ∷ 0 ∷ 0
    ∷ 0 ∷ 0 ∷ 1 ∷ 0 ∷ 0 ∷ 0 ∷ 1 ∷ 0 ∷ []

-- one cell with one array: D, the cell, the weight and the count, each below 256
abbrev pub one_cell : ℕ → ℕ → ℕ → ℕ → List ℕ
one_cell d g w n =
    1 ∷ 0 ∷ 1 ∷ 1 ∷ 1 ∷ 0 ∷ 0 ∷ 0
    ∷ d ∷ 0 ∷ 0 ∷ 0 ∷ 24 ∷ 0 ∷ 0 ∷ 0
    ∷ w ∷ 0 ∷ 0 ∷ 0 ∷ 28 ∷ 0 ∷ 0 ∷ 0
    ∷ g ∷ 0 ∷ 0 ∷ 0
    ∷ n ∷ 0 ∷ []

-- cells 0 over D 1 with one array: r and c, the offset of the array, and then the zeros of both bodies
abbrev pub zeros : ℕ → ℕ → ℕ → ℕ → List ℕ
zeros r c offset bytes =
    1 ∷ 0 ∷ r ∷ c ∷ 1 ∷ 0 ∷ 0 ∷ 0
    ∷ 1 ∷ 0 ∷ 0 ∷ 0 ∷ 24 ∷ 0 ∷ 0 ∷ 0
    ∷ 1 ∷ 0 ∷ 0 ∷ 0 ∷ offset ∷ 0 ∷ 0 ∷ 0
    ∷ replicate bytes 0

-- one cell 0 over D 171 with 171 arrays, weight 1 each
abbrev pub many_arrays : List ℕ
many_arrays =
    1 ∷ 0 ∷ 1 ∷ 1 ∷ 171 ∷ 0 ∷ 0 ∷ 0
    ∷ 171 ∷ 0 ∷ 0 ∷ 0 ∷ 104 ∷ 5 ∷ 0 ∷ 0
    ∷ (join_to 171 (λ k. 1 ∷ 0 ∷ 0 ∷ 0 ∷ (1388 + 2 * k) % 256 ∷ (1388 + 2 * k) / 256 ∷ 0 ∷ 0 ∷ []) ++ replicate 346 0)

-- one cell 0 over D 1 with two arrays, whose weights are 2^31 + 1 and 2^31
abbrev pub wrapping : List ℕ
wrapping =
    1 ∷ 0 ∷ 1 ∷ 1 ∷ 2 ∷ 0 ∷ 0 ∷ 0
    ∷ 1 ∷ 0 ∷ 0 ∷ 0 ∷ 32 ∷ 0 ∷ 0 ∷ 0
    ∷ 1 ∷ 0 ∷ 0 ∷ 128 ∷ 36 ∷ 0 ∷ 0 ∷ 0
    ∷ 0 ∷ 0 ∷ 0 ∷ 128 ∷ 38 ∷ 0 ∷ 0 ∷ 0
    ∷ 0 ∷ 0 ∷ 0 ∷ 0
    ∷ 0 ∷ 0
    ∷ 0 ∷ 0 ∷ []

-- one cell 0 over D 170 with 170 arrays, weight 1 each
abbrev pub most_arrays : List ℕ
most_arrays =
    1 ∷ 0 ∷ 1 ∷ 1 ∷ 170 ∷ 0 ∷ 0 ∷ 0
    ∷ 170 ∷ 0 ∷ 0 ∷ 0 ∷ 96 ∷ 5 ∷ 0 ∷ 0
    ∷ (join_to 170 (λ k. 1 ∷ 0 ∷ 0 ∷ 0 ∷ (1380 + 2 * k) % 256 ∷ (1380 + 2 * k) / 256 ∷ 0 ∷ 0 ∷ []) ++ replicate 344 0)

-- a stored plan, and the number that opening it gives
pub record Case : Type 0 where
  pub bytes : List ℕ
  pub number : ℕ

abbrev pub opened : Case → ℕ
opened x = answer_number (open_answer x.bytes)

abbrev pub gives : List ℕ → ℕ → Case
gives b n = record { bytes = b; number = n }

abbrev pub cases : List Case
cases =
    gives square 0
    ∷ gives wide 0
    ∷ gives recurring 0
    ∷ gives largest 0
    ∷ gives (one_cell 1 1 1 1) 0
    ∷ gives three_ones 0
    -- a grand total that is not whole is rounded down in one array and up in another
    ∷ gives grand_varies 0
    -- form, zero field, r, c, K, offsets of the table and of an array, a byte more, a byte less
    ∷ gives (set square 0 2) 5
    ∷ gives (set square 1 1) 5
    ∷ gives (set square 6 1) 5
    ∷ gives (set square 7 1) 5
    ∷ gives (set wide 2 3) 5
    ∷ gives (set wide 3 2) 5
    ∷ gives (set wide 4 6) 5
    ∷ gives (set square 12 33) 5
    ∷ gives (set square 20 50) 5
    ∷ gives (set recurring 117 0) 5
    ∷ gives (square ++ (0 ∷ [])) 5
    ∷ gives (take 63 square) 5
    -- 256 bytes more; 130 rows, 130 columns
    ∷ gives (square ++ replicate 256 0) 5
    ∷ gives (set square 2 130) 5
    ∷ gives (set square 3 130) 5
    -- one byte alone: the high one of K, those of D, and the other three of the offset of the table
    ∷ gives (set square 5 1) 5
    ∷ gives (set square 8 3) 6
    ∷ gives (set square 9 1) 6
    ∷ gives (set square 10 1) 5
    ∷ gives (set square 11 1) 5
    ∷ gives (set square 13 1) 5
    ∷ gives (set square 14 1) 5
    ∷ gives (set square 15 1) 5
    -- of the weight and of the offset of the first array, and of the last
    ∷ gives (set square 16 2) 6
    ∷ gives (set square 17 1) 6
    ∷ gives (set square 18 1) 6
    ∷ gives (set square 19 1) 6
    ∷ gives (set square 21 1) 5
    ∷ gives (set square 22 1) 5
    ∷ gives (set square 23 1) 5
    ∷ gives (set square 24 2) 6
    ∷ gives (set square 25 1) 6
    ∷ gives (set square 26 1) 6
    ∷ gives (set square 27 1) 6
    ∷ gives (set square 28 57) 5
    ∷ gives (set square 29 1) 5
    ∷ gives (set square 30 1) 5
    ∷ gives (set square 31 1) 5
    -- of the first cell and of the last, of the first count and of the last
    ∷ gives (set square 32 2) 6
    ∷ gives (set square 33 1) 6
    ∷ gives (set square 34 1) 6
    ∷ gives (set square 35 1) 6
    ∷ gives (set square 44 2) 6
    ∷ gives (set square 45 1) 6
    ∷ gives (set square 46 1) 6
    ∷ gives (set square 47 1) 6
    ∷ gives (set square 48 1) 6
    ∷ gives (set square 49 1) 6
    ∷ gives (set square 62 2) 6
    ∷ gives (set square 63 1) 6
    -- 12 rows and 13, 12 columns and 13
    ∷ gives (zeros 12 1 72 72) 0
    ∷ gives (zeros 13 1 76 78) 5
    ∷ gives (zeros 1 12 72 72) 0
    ∷ gives (zeros 1 13 76 78) 5
    -- 12 of each: the offset of the array is 600
    ∷ gives (set (zeros 12 12 88 864) 21 2) 0
    -- no rows, no columns, D 0, D 65,535 and 65,536 with its only weight
    ∷ gives (zeros 0 1 24 0) 5
    ∷ gives (zeros 1 0 24 0) 5
    ∷ gives (one_cell 0 0 1 0) 5
    ∷ gives (set (set (set (set (one_cell 0 0 0 0) 8 255) 9 255) 16 255) 17 255) 0
    ∷ gives (set (set (one_cell 0 0 0 0) 10 1) 18 1) 5
    -- D and its only weight of 65,537, of 131,071 and of 16,777,217
    ∷ gives (set (set (one_cell 1 0 1 0) 10 1) 18 1) 5
    ∷ gives (set (set (set (set (one_cell 255 0 255 0) 9 255) 10 1) 17 255) 18 1) 5
    ∷ gives (set (set (one_cell 1 0 1 0) 11 1) 19 1) 5
    -- 170 arrays and 171, no arrays, and no bytes at all
    ∷ gives most_arrays 0
    ∷ gives many_arrays 5
    ∷ gives (1 ∷ 0 ∷ 1 ∷ 1 ∷ 0 ∷ 0 ∷ 0 ∷ 0 ∷ 1 ∷ 0 ∷ 0 ∷ 0 ∷ 16 ∷ 0 ∷ 0 ∷ 0 ∷ 0 ∷ 0 ∷ 0 ∷ 0 ∷ []) 5
    ∷ gives [] 5
    -- a cell of 1000·D and of one more, over D 1, with its count
    ∷ gives (set (set (one_cell 1 232 1 232) 25 3) 29 3) 0
    ∷ gives (set (set (one_cell 1 233 1 233) 25 3) 29 3) 6
    -- of two cells the second is 1000·D, the second is one more, the first is one more
    ∷ gives (set (set (set (set (zeros 1 2 32 12) 28 232) 29 3) 34 232) 35 3) 0
    ∷ gives (set (set (set (set (zeros 1 2 32 12) 28 233) 29 3) 34 233) 35 3) 6
    ∷ gives (set (set (set (set (zeros 1 2 32 12) 24 233) 25 3) 32 233) 33 3) 6
    -- a weight of 0, the last, the first or the second, and weights that add up to D − 1 and D + 1
    ∷ gives (set (set three_ones 16 2) 32 0) 6
    ∷ gives (set (set three_ones 16 0) 32 2) 6
    ∷ gives (set (set (set three_ones 16 2) 24 0) 48 0) 6
    ∷ gives (one_cell 2 0 1 0) 6
    ∷ gives (one_cell 2 0 3 0) 6
    -- a weight of which only the low part is D: 257, 65,537 and 16,777,217 over D 1; and two that add up to 2^32 + 1
    ∷ gives (set (one_cell 1 0 1 0) 17 1) 6
    ∷ gives (set (one_cell 1 0 1 0) 18 1) 6
    ∷ gives (set (one_cell 1 0 1 0) 19 1) 6
    ∷ gives wrapping 6
    -- cells that vary where lines do not, rows that vary, columns that vary
    ∷ gives cells_vary 6
    ∷ gives rows_vary 6
    ∷ gives columns_vary 6
    -- a cell 3 over D 3 is 1 in the first array alone, in the last alone, in the second alone
    ∷ gives (set (set three_ones 40 3) 48 2) 6
    ∷ gives (set (set three_ones 40 3) 44 2) 6
    ∷ gives (set (set (set (set three_ones 40 3) 44 0) 46 1) 48 2) 6
    -- only the grand total is wrong: 0 and 2 where 1 is planned, 2 where 2 over 4 is, 0 where 6 over 4 is
    ∷ gives swinging 6
    ∷ gives (set (set swinging 8 4) 16 3) 6
    ∷ gives (set (set (set (set swinging 8 4) 24 3) 32 3) 44 3) 6
    -- counts times weights that do not add up to the table
    ∷ gives (one_cell 2 1 2 0) 6
    -- in one cell alone of two rows and two columns
    ∷ gives (set (set (set (zeros 2 2 40 24) 8 2) 16 2) 24 1) 6
    ∷ gives (set (set (set (zeros 2 2 40 24) 8 2) 16 2) 28 1) 6
    ∷ gives (set (set (set (zeros 2 2 40 24) 8 2) 16 2) 32 1) 6
    ∷ gives (set (set (set (zeros 2 2 40 24) 8 2) 16 2) 36 1) 6
    -- 5 and 6 both apply
    ∷ gives (one_cell 2 0 1 0 ++ (0 ∷ [])) 5
    ∷ []

-- a call that takes a plan and writes numbers into a buffer: how many it needs and how many there is room for, and the number of the refusal, 0 for none
pub record Part : Type 0 where
  pub plan : List ℕ
  pub need : ℕ
  pub room : ℕ
  pub number : ℕ

abbrev pub part : List ℕ → ℕ → ℕ → ℕ → Part
part b need room n = record { plan = b; need = need; room = room; number = n }

abbrev pub part_number : Part → ℕ
part_number x = answer_number (answer_of (part_refusal x.plan x.need x.room))

-- the plan of two rows, three columns, seven arrays and D 1000 with a byte more: 5; and with a weight one too large: 6
abbrev pub longer : List ℕ
longer = wide ++ (0 ∷ [])

abbrev pub heavy : List ℕ
heavy = set wide 16 101

abbrev pub parts : List Part
parts =
    part wide 4 4 0
    ∷ part wide 4 5 0
    ∷ part wide 4 3 7
    -- needs and rooms of which only the low part is above or below the other
    ∷ part wide 4 256 0
    ∷ part wide 4 65536 0
    ∷ part wide 4 4294967296 0
    ∷ part wide 260 259 7
    ∷ part wide 256 4 7
    ∷ part wide 65536 4 7
    ∷ part wide 4294967296 4 7
    ∷ part longer 4 4 5
    ∷ part heavy 4 4 6
    -- with 7
    ∷ part longer 4 0 5
    ∷ part heavy 4 3 6
    ∷ []
