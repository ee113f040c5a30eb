-- Numbers and inputs, and what is printed of them (specification, "The variance program"). The bytes are typed out. Assumes nothing.
use Rattle.std.specs.Prelude.{List, [], ◌∷◌, ◌++◌, ℕ, ◌+◌, ℤ, pos, negsuc, set, take}
use Rattle.base.specs.Lists.{join_to}
use Rattle.form.specs.Examples.{square, wide, recurring}
use Rattle.opening.specs.Examples.{three_ones, one_cell, zeros, many_arrays}
use Rattle.variances.specs.Examples.{listed, one_row, never_both, largest_counts, heavy}

-- 0, 7, 20, −1 and −24; 2^32 and −2^32; the largest and the least of 64 bits
abbrev pub numbers : List ℤ
numbers =
    pos 0 ∷ pos 7 ∷ pos 20 ∷ negsuc 0 ∷ negsuc 23
    ∷ pos 4294967296 ∷ negsuc 4294967295 ∷ pos 9223372036854775807 ∷ negsuc 9223372036854775807 ∷ []

abbrev pub numerals : List (List ℕ)
numerals =
    (48 ∷ []) ∷ (55 ∷ []) ∷ (50 ∷ 48 ∷ []) ∷ (45 ∷ 49 ∷ []) ∷ (45 ∷ 50 ∷ 52 ∷ [])
    ∷ (52 ∷ 50 ∷ 57 ∷ 52 ∷ 57 ∷ 54 ∷ 55 ∷ 50 ∷ 57 ∷ 54 ∷ [])
    ∷ (45 ∷ 52 ∷ 50 ∷ 57 ∷ 52 ∷ 57 ∷ 54 ∷ 55 ∷ 50 ∷ 57 ∷ 54 ∷ [])
    ∷ (57 ∷ 50 ∷ 50 ∷ 51 ∷ 51 ∷ 55 ∷ 50 ∷ 48 ∷ 51 ∷ 54 ∷ 56 ∷ 53 ∷ 52 ∷ 55 ∷ 55 ∷ 53 ∷ 56 ∷ 48 ∷ 55 ∷ [])
    ∷ (45 ∷ 57 ∷ 50 ∷ 50 ∷ 51 ∷ 51 ∷ 55 ∷ 50 ∷ 48 ∷ 51 ∷ 54 ∷ 56 ∷ 53 ∷ 52 ∷ 55 ∷ 55 ∷ 53 ∷ 56 ∷ 48 ∷ 56 ∷ [])
    ∷ []

-- refused 5 and refused 6
abbrev pub refused_five : List ℕ
refused_five = 114 ∷ 101 ∷ 102 ∷ 117 ∷ 115 ∷ 101 ∷ 100 ∷ 32 ∷ 53 ∷ 10 ∷ []

abbrev pub refused_six : List ℕ
refused_six = 114 ∷ 101 ∷ 102 ∷ 117 ∷ 115 ∷ 101 ∷ 100 ∷ 32 ∷ 54 ∷ 10 ∷ []

-- the first eight bytes of a plan or of something else, and how many bytes belong to it
pub record Head : Type 0 where
  pub bytes : List ℕ
  pub reads : ℕ

abbrev pub says : List ℕ → ℕ → Head
says b n = record { bytes = b; reads = n }

abbrev pub heads : List Head
heads =
    says (take 8 square) 64
    ∷ says (take 8 wide) 180
    ∷ says (take 8 recurring) 300
    -- the shortest and the longest
    ∷ says (1 ∷ 0 ∷ 1 ∷ 1 ∷ 1 ∷ 0 ∷ 0 ∷ 0 ∷ []) 30
    ∷ says (1 ∷ 0 ∷ 12 ∷ 12 ∷ 170 ∷ 0 ∷ 0 ∷ 0 ∷ []) 50912
    -- seven bytes, and none
    ∷ says (take 7 square) 8
    ∷ says [] 8
    -- form, rows, columns, arrays and zero field wrong, each in one byte alone
    ∷ says (2 ∷ 0 ∷ 2 ∷ 2 ∷ 2 ∷ 0 ∷ 0 ∷ 0 ∷ []) 8
    ∷ says (1 ∷ 1 ∷ 2 ∷ 2 ∷ 2 ∷ 0 ∷ 0 ∷ 0 ∷ []) 8
    ∷ says (1 ∷ 0 ∷ 0 ∷ 2 ∷ 2 ∷ 0 ∷ 0 ∷ 0 ∷ []) 8
    ∷ says (1 ∷ 0 ∷ 13 ∷ 2 ∷ 2 ∷ 0 ∷ 0 ∷ 0 ∷ []) 8
    ∷ says (1 ∷ 0 ∷ 130 ∷ 2 ∷ 2 ∷ 0 ∷ 0 ∷ 0 ∷ []) 8
    ∷ says (1 ∷ 0 ∷ 2 ∷ 0 ∷ 2 ∷ 0 ∷ 0 ∷ 0 ∷ []) 8
    ∷ says (1 ∷ 0 ∷ 2 ∷ 13 ∷ 2 ∷ 0 ∷ 0 ∷ 0 ∷ []) 8
    ∷ says (1 ∷ 0 ∷ 2 ∷ 130 ∷ 2 ∷ 0 ∷ 0 ∷ 0 ∷ []) 8
    ∷ says (1 ∷ 0 ∷ 2 ∷ 2 ∷ 0 ∷ 0 ∷ 0 ∷ 0 ∷ []) 8
    ∷ says (1 ∷ 0 ∷ 2 ∷ 2 ∷ 171 ∷ 0 ∷ 0 ∷ 0 ∷ []) 8
    ∷ says (1 ∷ 0 ∷ 2 ∷ 2 ∷ 0 ∷ 1 ∷ 0 ∷ 0 ∷ []) 8
    ∷ says (1 ∷ 0 ∷ 2 ∷ 2 ∷ 2 ∷ 1 ∷ 0 ∷ 0 ∷ []) 8
    ∷ says (1 ∷ 0 ∷ 2 ∷ 2 ∷ 2 ∷ 128 ∷ 0 ∷ 0 ∷ []) 8
    ∷ says (1 ∷ 0 ∷ 2 ∷ 2 ∷ 2 ∷ 0 ∷ 1 ∷ 0 ∷ []) 8
    ∷ says (1 ∷ 0 ∷ 2 ∷ 2 ∷ 2 ∷ 0 ∷ 0 ∷ 1 ∷ []) 8
    ∷ []

-- one cell 0 over D 1 without an array
abbrev pub no_arrays : List ℕ
no_arrays =
    1 ∷ 0 ∷ 1 ∷ 1 ∷ 0 ∷ 0 ∷ 0 ∷ 0
    ∷ 1 ∷ 0 ∷ 0 ∷ 0 ∷ 16 ∷ 0 ∷ 0 ∷ 0
    ∷ 0 ∷ 0 ∷ 0 ∷ 0 ∷ []

-- an input, and what the program prints of it
pub record Run : Type 0 where
  pub input : List ℕ
  pub prints : List ℕ

abbrev pub runs : List ℕ → List ℕ → Run
runs s p = record { input = s; prints = p }

abbrev pub programs : List Run
programs =
    -- nothing; one plan; several
    runs [] []
    -- 1 94 -24 20
    ∷ runs listed (49 ∷ 32 ∷ 57 ∷ 52 ∷ 32 ∷ 45 ∷ 50 ∷ 52 ∷ 32 ∷ 50 ∷ 48 ∷ 10 ∷ [])
    -- 1 808403 -200000 56000, 2 4 -1 1, 3 94 -24 20
    ∷ runs (wide ++ square ++ listed)
    (49 ∷ 32 ∷ 56 ∷ 48 ∷ 56 ∷ 52 ∷ 48 ∷ 51 ∷ 32 ∷ 45 ∷ 50 ∷ 48 ∷ 48 ∷ 48 ∷ 48 ∷ 48 ∷ 32 ∷ 53 ∷ 54 ∷ 48 ∷ 48 ∷ 48 ∷ 10
    ∷ 50 ∷ 32 ∷ 52 ∷ 32 ∷ 45 ∷ 49 ∷ 32 ∷ 49 ∷ 10
    ∷ 51 ∷ 32 ∷ 57 ∷ 52 ∷ 32 ∷ 45 ∷ 50 ∷ 52 ∷ 32 ∷ 50 ∷ 48 ∷ 10 ∷ [])
    -- one cell, and the same plan again
    -- 1 2 0 0, 2 0 0 0, 3 2 0 0
    ∷ runs (three_ones ++ one_cell 1 1 1 1 ++ three_ones)
    (49 ∷ 32 ∷ 50 ∷ 32 ∷ 48 ∷ 32 ∷ 48 ∷ 10
    ∷ 50 ∷ 32 ∷ 48 ∷ 32 ∷ 48 ∷ 32 ∷ 48 ∷ 10
    ∷ 51 ∷ 32 ∷ 50 ∷ 32 ∷ 48 ∷ 32 ∷ 48 ∷ 10 ∷ [])
    -- 1 45 -12 -12, 2 4 0 0
    ∷ runs (never_both ++ one_row)
    (49 ∷ 32 ∷ 52 ∷ 53 ∷ 32 ∷ 45 ∷ 49 ∷ 50 ∷ 32 ∷ 45 ∷ 49 ∷ 50 ∷ 10
    ∷ 50 ∷ 32 ∷ 52 ∷ 32 ∷ 48 ∷ 32 ∷ 48 ∷ 10 ∷ [])
    -- 1 2147418112 -1073709056 -1073709056
    ∷ runs largest_counts (49 ∷ 32 ∷ 50 ∷ 49 ∷ 52 ∷ 55 ∷ 52 ∷ 49 ∷ 56 ∷ 49 ∷ 49 ∷ 50 ∷ 32 ∷ 45 ∷ 49 ∷ 48 ∷ 55 ∷ 51 ∷ 55 ∷ 48 ∷ 57 ∷ 48 ∷ 53 ∷ 54 ∷ 32 ∷ 45 ∷ 49 ∷ 48 ∷ 55 ∷ 51 ∷ 55 ∷ 48 ∷ 57 ∷ 48 ∷ 53 ∷ 54 ∷ 10 ∷ [])
    -- ten plans
    -- 1 0 0 0, .., 10 0 0 0
    ∷ runs (join_to 10 (λ _. one_cell 1 1 1 1))
    (join_to 9 (λ k. (49 + k) ∷ 32 ∷ 48 ∷ 32 ∷ 48 ∷ 32 ∷ 48 ∷ 10 ∷ []) ++ (49 ∷ 48 ∷ 32 ∷ 48 ∷ 32 ∷ 48 ∷ 32 ∷ 48 ∷ 10 ∷ []))
    -- 1 byte left over, and 7
    -- 1 4 -1 1, refused 5
    ∷ runs (square ++ take 1 square) (49 ∷ 32 ∷ 52 ∷ 32 ∷ 45 ∷ 49 ∷ 32 ∷ 49 ∷ 10 ∷ refused_five)
    -- 1 4 -1 1, refused 5
    ∷ runs (square ++ take 7 square) (49 ∷ 32 ∷ 52 ∷ 32 ∷ 45 ∷ 49 ∷ 32 ∷ 49 ∷ 10 ∷ refused_five)
    ∷ runs (0 ∷ []) refused_five
    -- the head alone, and a plan without its last byte
    -- 1 4 -1 1, refused 5
    ∷ runs (square ++ take 8 square) (49 ∷ 32 ∷ 52 ∷ 32 ∷ 45 ∷ 49 ∷ 32 ∷ 49 ∷ 10 ∷ refused_five)
    -- 1 4 -1 1, refused 5
    ∷ runs (square ++ take 63 square) (49 ∷ 32 ∷ 52 ∷ 32 ∷ 45 ∷ 49 ∷ 32 ∷ 49 ∷ 10 ∷ refused_five)
    -- form, zero field, the high byte of the number of arrays
    ∷ runs (set square 0 2) refused_five
    ∷ runs (set square 1 1) refused_five
    ∷ runs (set square 6 1) refused_five
    ∷ runs (set square 7 1) refused_five
    ∷ runs (set square 5 1) refused_five
    -- 13 rows, 13 columns, none of either, no arrays, 171 arrays
    ∷ runs (zeros 13 1 76 78) refused_five
    ∷ runs (zeros 1 13 76 78) refused_five
    ∷ runs (zeros 0 1 24 0) refused_five
    ∷ runs (zeros 1 0 24 0) refused_five
    ∷ runs no_arrays refused_five
    ∷ runs many_arrays refused_five
    -- D 0, D of 65,537, and the offsets of the table and of an array
    ∷ runs (one_cell 0 0 1 0) refused_five
    ∷ runs (set (set (one_cell 1 0 1 0) 10 1) 18 1) refused_five
    ∷ runs (set square 12 33) refused_five
    ∷ runs (set square 20 50) refused_five
    ∷ runs (set square 14 1) refused_five
    ∷ runs (set square 23 1) refused_five
    -- 6
    ∷ runs heavy refused_six
    -- 1 94 -24 20, refused 6
    ∷ runs (listed ++ heavy) (49 ∷ 32 ∷ 57 ∷ 52 ∷ 32 ∷ 45 ∷ 50 ∷ 52 ∷ 32 ∷ 50 ∷ 48 ∷ 10 ∷ refused_six)
    -- what stands after a refused plan is not read, be it a plan or none
    ∷ runs (heavy ++ listed) refused_six
    ∷ runs (set square 0 2 ++ listed) refused_five
    -- 1 4 -1 1, refused 6
    ∷ runs (square ++ heavy ++ (0 ∷ [])) (49 ∷ 32 ∷ 52 ∷ 32 ∷ 45 ∷ 49 ∷ 32 ∷ 49 ∷ 10 ∷ refused_six)
    -- a byte between two plans is the first of the second
    -- 1 4 -1 1, refused 5
    ∷ runs (square ++ (0 ∷ []) ++ square) (49 ∷ 32 ∷ 52 ∷ 32 ∷ 45 ∷ 49 ∷ 32 ∷ 49 ∷ 10 ∷ refused_five)
    ∷ []
