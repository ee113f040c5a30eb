-- Literal cases of bits: which bit each number has, the bytes that they take, and the spare bits (specification, "Campaign record"). Assumes nothing.
use Rattle.std.specs.Prelude.{Bool, true, false, List, [], ◌∷◌, ℕ}

-- two bytes, and the bits of the numbers 0 to 17 in them: the lowest first, and 0 beyond, be the low part of a number a place or not
abbrev pub two_bytes : List ℕ
two_bytes = 37 ∷ 129 ∷ []

abbrev pub numbers : List ℕ
numbers = 0 ∷ 1 ∷ 2 ∷ 3 ∷ 4 ∷ 5 ∷ 6 ∷ 7 ∷ 8 ∷ 9 ∷ 10 ∷ 11 ∷ 12 ∷ 13 ∷ 14 ∷ 15 ∷ 16 ∷ 17
    ∷ 256 ∷ 2048 ∷ 65536 ∷ 524288 ∷ 4294967296 ∷ 34359738368 ∷ []

abbrev pub set : List ℕ
set = 1 ∷ 0 ∷ 1 ∷ 0 ∷ 0 ∷ 1 ∷ 0 ∷ 0 ∷ 1 ∷ 0 ∷ 0 ∷ 0 ∷ 0 ∷ 0 ∷ 0 ∷ 1 ∷ 0 ∷ 0
    ∷ 0 ∷ 0 ∷ 0 ∷ 0 ∷ 0 ∷ 0 ∷ []

-- the bytes that the bits of each denominator take
pub record Bytes : Type 0 where
  pub denominator : ℕ
  pub bytes : ℕ

abbrev pub takes : ℕ → ℕ → Bytes
takes denominator bytes = record { denominator = denominator; bytes = bytes }

abbrev pub lengths : List Bytes
lengths = takes 1 1 ∷ takes 7 1 ∷ takes 8 1 ∷ takes 9 2 ∷ takes 16 2 ∷ takes 17 3 ∷ takes 2049 257 ∷ takes 65528 8191 ∷ takes 65535 8192 ∷ []

-- so many bits in some bytes, and whether those after them, up to the end of their last byte, are 0
pub record Spare : Type 0 where
  pub count : ℕ
  pub bits : List ℕ
  pub clear : Bool

abbrev pub spare : ℕ → List ℕ → Bool → Spare
spare count bits clear = record { count = count; bits = bits; clear = clear }

abbrev pub spares : List Spare
spares =
    -- seven bits: the eighth alone is spare
    spare 7 (127 ∷ []) true
    ∷ spare 7 (128 ∷ []) false
    -- eight bits: none is
    ∷ spare 8 (255 ∷ []) true
    -- nine bits: the seven above the lowest of the second byte, each alone; what follows is not asked
    ∷ spare 9 (255 ∷ 1 ∷ 255 ∷ []) true
    ∷ spare 9 (0 ∷ 2 ∷ []) false
    ∷ spare 9 (0 ∷ 4 ∷ []) false
    ∷ spare 9 (0 ∷ 8 ∷ []) false
    ∷ spare 9 (0 ∷ 16 ∷ []) false
    ∷ spare 9 (0 ∷ 32 ∷ []) false
    ∷ spare 9 (0 ∷ 64 ∷ []) false
    ∷ spare 9 (0 ∷ 128 ∷ []) false
    ∷ []
