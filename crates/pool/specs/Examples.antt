-- Literal cases of the call "pool" (specification, "Pooling two tables" and "Refusals"). Assumes nothing.
use Rattle.std.specs.Prelude.{List, [], ◌∷◌, ℕ, length, replicate}
use Rattle.refusals.specs.Answer.{answer_number}
use Rattle.refusals.specs.Due.{answer_of, after}
use Rattle.pool.specs.Pool.{pool_refusal, Lent, lent, pooled_into}

-- a table's part in a pool: its denominator and its cells
pub record Part : Type 0 where
  pub denominator : ℕ
  pub cells : List ℕ

abbrev pub over : ℕ → List ℕ → Part
over d g = record { denominator = d; cells = g }

-- two parts of rows by columns, and buffers; the number that the call returns, and the buffers as it leaves them
pub record Case : Type 0 where
  pub rows : ℕ
  pub columns : ℕ
  pub first : Part
  pub second : Part
  pub buffers : Lent
  pub number : ℕ
  pub left : Lent

abbrev pub pools : ℕ → ℕ → Part → Part → Lent → Lent → Case
pools r c x y old new = record { rows = r; columns = c; first = x; second = y; buffers = old; number = 0; left = new }

abbrev pub refuses : ℕ → ℕ → Part → Part → Lent → ℕ → Case
refuses r c x y old n = record { rows = r; columns = c; first = x; second = y; buffers = old; number = n; left = old }

abbrev pub written : ℕ → Lent → List (List ℕ)
written n x = (n ∷ []) ∷ x.denominator ∷ x.cells ∷ []

abbrev pub said : Case → List (List ℕ)
said x = written x.number x.left

abbrev pub pooled : Case → List (List ℕ)
pooled x =
    let d = x.first.denominator in
    let g = x.first.cells in
    let e = x.second.denominator in
    let h = x.second.cells in
    let old = x.buffers in
    let o = pool_refusal x.rows x.columns d g e h (length old.denominator) (length old.cells) in
    written (answer_number (answer_of o)) (after o (pooled_into d g e h old) old)

-- buffers of just the needed length, for one cell, two and thirteen; and none
abbrev pub one : Lent
one = lent (8 ∷ []) (8 ∷ [])

abbrev pub two : Lent
two = lent (8 ∷ []) (8 ∷ 8 ∷ [])

abbrev pub thirteen : Lent
thirteen = lent (8 ∷ []) (replicate 13 8)

abbrev pub none : Lent
none = lent [] []

abbrev pub zeros : ℕ → Part
zeros d = over d (replicate 13 0)

abbrev pub cases : List Case
cases =
    pools 1 2 (over 10 (3 ∷ 4 ∷ [])) (over 4 (1 ∷ 2 ∷ [])) two (lent (20 ∷ []) (11 ∷ 18 ∷ []))
    -- coprime denominators; what the buffers have beyond the result stays
    ∷ pools 2 3 (over 7 (1 ∷ 2 ∷ 3 ∷ 4 ∷ 5 ∷ 6 ∷ [])) (over 5 (6 ∷ 5 ∷ 4 ∷ 3 ∷ 2 ∷ 1 ∷ [])) (lent (8 ∷ 9 ∷ []) (8 ∷ 8 ∷ 8 ∷ 8 ∷ 8 ∷ 8 ∷ 9 ∷ []))
    (lent (35 ∷ 9 ∷ []) (47 ∷ 45 ∷ 43 ∷ 41 ∷ 39 ∷ 37 ∷ 9 ∷ []))
    -- equal denominators; one that divides the other
    ∷ pools 2 2 (over 10 (3 ∷ 4 ∷ 5 ∷ 6 ∷ [])) (over 10 (1 ∷ 0 ∷ 0 ∷ 2 ∷ [])) (lent (8 ∷ []) (8 ∷ 8 ∷ 8 ∷ 8 ∷ [])) (lent (10 ∷ []) (4 ∷ 4 ∷ 5 ∷ 8 ∷ []))
    ∷ pools 1 1 (over 3 (2 ∷ [])) (over 12 (5 ∷ [])) one (lent (12 ∷ []) (13 ∷ []))
    ∷ pools 1 1 (over 12 (5 ∷ [])) (over 3 (2 ∷ [])) one (lent (12 ∷ []) (13 ∷ []))
    -- 11: the multiple at its bound, and the least above it
    ∷ pools 1 1 (over 255 (1 ∷ [])) (over 257 (2 ∷ [])) one (lent (65535 ∷ []) (767 ∷ []))
    ∷ refuses 1 1 (over 2 (1 ∷ [])) (over 32769 (1 ∷ [])) one 11
    -- 12: a pooled cell at its bound, and one above it
    ∷ pools 1 1 (over 10 (9000 ∷ [])) (over 4 (400 ∷ [])) one (lent (20 ∷ []) (20000 ∷ []))
    ∷ refuses 1 1 (over 10 (8998 ∷ [])) (over 4 (401 ∷ [])) one 12
    -- the largest
    ∷ pools 1 1 (over 65535 (65535000 ∷ [])) (over 1 (0 ∷ [])) one (lent (65535 ∷ []) (65535000 ∷ []))
    -- 12: twice the largest; of two pooled cells the second alone, the first alone
    ∷ refuses 1 1 (over 65535 (65535000 ∷ [])) (over 1 (1000 ∷ [])) one 12
    ∷ refuses 1 2 (over 1 (0 ∷ 600 ∷ [])) (over 1 (0 ∷ 600 ∷ [])) two 12
    ∷ refuses 1 2 (over 1 (600 ∷ 0 ∷ [])) (over 1 (600 ∷ 0 ∷ [])) two 12
    -- buffers of 256 numbers
    ∷ pools 1 2 (over 10 (3 ∷ 4 ∷ [])) (over 4 (1 ∷ 2 ∷ [])) (lent (replicate 256 8) (replicate 256 8))
    (lent (20 ∷ replicate 255 8) (11 ∷ 18 ∷ replicate 254 8))
    -- 7: either buffer
    ∷ refuses 1 2 (over 10 (3 ∷ 4 ∷ [])) (over 4 (1 ∷ 2 ∷ [])) (lent [] (8 ∷ 8 ∷ [])) 7
    ∷ refuses 1 2 (over 10 (3 ∷ 4 ∷ [])) (over 4 (1 ∷ 2 ∷ [])) one 7
    -- 1
    ∷ refuses 13 1 (zeros 1) (zeros 1) thirteen 1
    ∷ refuses 1 0 (over 1 []) (over 1 []) (lent (8 ∷ []) []) 1
    -- rows and columns of which only the low part is within the bounds
    ∷ refuses 257 1 (over 1 (0 ∷ [])) (over 1 (0 ∷ [])) one 1
    ∷ refuses 65537 1 (over 1 (0 ∷ [])) (over 1 (0 ∷ [])) one 1
    ∷ refuses 1 257 (over 1 (0 ∷ [])) (over 1 (0 ∷ [])) one 1
    ∷ refuses 1 65537 (over 1 (0 ∷ [])) (over 1 (0 ∷ [])) one 1
    -- 2, 3 and 4: either part; a cell of 1000 times its own denominator is taken
    ∷ refuses 1 1 (over 0 (0 ∷ [])) (over 1 (0 ∷ [])) one 2
    ∷ refuses 1 1 (over 1 (0 ∷ [])) (over 0 (0 ∷ [])) one 2
    ∷ refuses 1 1 (over 65536 (0 ∷ [])) (over 1 (0 ∷ [])) one 2
    ∷ refuses 1 1 (over 1 (0 ∷ [])) (over 65536 (0 ∷ [])) one 2
    ∷ refuses 1 1 (over 65537 (0 ∷ [])) (over 1 (0 ∷ [])) one 2
    ∷ refuses 1 1 (over 1 (0 ∷ [])) (over 65537 (0 ∷ [])) one 2
    ∷ refuses 1 1 (over 131071 (0 ∷ [])) (over 1 (0 ∷ [])) one 2
    ∷ refuses 1 1 (over 1 (0 ∷ [])) (over 131071 (0 ∷ [])) one 2
    ∷ refuses 1 2 (over 1 (0 ∷ [])) (over 1 (0 ∷ 0 ∷ [])) two 3
    ∷ refuses 1 2 (over 1 (0 ∷ 0 ∷ [])) (over 1 (0 ∷ 0 ∷ 0 ∷ [])) two 3
    ∷ refuses 1 2 (over 1 (replicate 258 0)) (over 1 (0 ∷ 0 ∷ [])) two 3
    ∷ refuses 1 2 (over 1 (0 ∷ 0 ∷ [])) (over 1 (replicate 258 0)) two 3
    ∷ pools 1 1 (over 7 (7000 ∷ [])) (over 1 (0 ∷ [])) one (lent (7 ∷ []) (7000 ∷ []))
    ∷ refuses 1 1 (over 7 (7001 ∷ [])) (over 1 (0 ∷ [])) one 4
    ∷ refuses 1 1 (over 1 (0 ∷ [])) (over 7 (7001 ∷ [])) one 4
    ∷ refuses 1 1 (over 1 (65536 ∷ [])) (over 1 (0 ∷ [])) one 4
    ∷ refuses 1 1 (over 1 (0 ∷ [])) (over 1 (65536 ∷ [])) one 4
    ∷ refuses 1 1 (over 1 (16777216 ∷ [])) (over 1 (0 ∷ [])) one 4
    ∷ refuses 1 1 (over 1 (0 ∷ [])) (over 1 (16777216 ∷ [])) one 4
    ∷ refuses 1 2 (over 1 (0 ∷ 1001 ∷ [])) (over 1 (0 ∷ 0 ∷ [])) two 4
    ∷ refuses 1 2 (over 1 (0 ∷ 0 ∷ [])) (over 1 (0 ∷ 1001 ∷ [])) two 4
    -- two at once: 1 with each of 2, 3, 4, 11, 12 and 7
    ∷ refuses 13 1 (zeros 1) (zeros 0) thirteen 1
    ∷ refuses 1 13 (over 1 (0 ∷ [])) (over 1 (0 ∷ [])) thirteen 1
    ∷ refuses 1 13 (over 1 (1001 ∷ replicate 12 0)) (zeros 1) thirteen 1
    ∷ refuses 13 1 (zeros 2) (zeros 32769) thirteen 1
    ∷ refuses 13 1 (over 1 (replicate 13 600)) (over 1 (replicate 13 600)) thirteen 1
    ∷ refuses 13 1 (zeros 1) (zeros 1) none 1
    -- 2 with 3, 4, 11, 12 and 7
    ∷ refuses 1 2 (over 1 (0 ∷ [])) (over 0 (0 ∷ 0 ∷ [])) two 2
    ∷ refuses 1 1 (over 1 (1001 ∷ [])) (over 0 (0 ∷ [])) one 2
    ∷ refuses 1 1 (over 2 (1 ∷ [])) (over 65537 (1 ∷ [])) one 2
    ∷ refuses 1 1 (over 65536 (40000000 ∷ [])) (over 65536 (40000000 ∷ [])) one 2
    ∷ refuses 1 1 (over 1 (0 ∷ [])) (over 0 (0 ∷ [])) none 2
    -- 3 with 4, 11, 12 and 7
    ∷ refuses 1 2 (over 1 (1001 ∷ 0 ∷ [])) (over 1 (0 ∷ [])) two 3
    ∷ refuses 1 2 (over 2 (1 ∷ [])) (over 32769 (1 ∷ 1 ∷ [])) two 3
    ∷ refuses 1 2 (over 1 (600 ∷ 0 ∷ [])) (over 1 (600 ∷ [])) two 3
    ∷ refuses 1 2 (over 1 (0 ∷ [])) (over 1 (0 ∷ 0 ∷ [])) none 3
    -- 4 with 11, 12 and 7
    ∷ refuses 1 1 (over 2 (2001 ∷ [])) (over 32769 (1 ∷ [])) one 4
    ∷ refuses 1 1 (over 1 (1001 ∷ [])) (over 1 (0 ∷ [])) one 4
    ∷ refuses 1 1 (over 1 (0 ∷ [])) (over 7 (7001 ∷ [])) none 4
    -- 11 with 12 and 7, 12 with 7
    ∷ refuses 1 1 (over 2 (2000 ∷ [])) (over 32769 (32769000 ∷ [])) one 11
    ∷ refuses 1 1 (over 2 (1 ∷ [])) (over 32769 (1 ∷ [])) none 11
    ∷ refuses 1 1 (over 1 (600 ∷ [])) (over 1 (600 ∷ [])) (lent (8 ∷ []) []) 12
    ∷ []
