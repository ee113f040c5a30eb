-- Numbers, and the bytes of their digits (specification, "The printing program"). Assumes nothing.
use Rattle.std.specs.Prelude.{List, [], ◌∷◌, ℕ}

abbrev pub numbers : List ℕ
numbers = 0 ∷ 7 ∷ 9 ∷ 10 ∷ 99 ∷ 100 ∷ 256 ∷ 65536 ∷ 4294967295 ∷ 4294967296 ∷ 18446744073709551615 ∷ []

abbrev pub numerals : List (List ℕ)
numerals =
    (48 ∷ [])
    ∷ (55 ∷ [])
    ∷ (57 ∷ [])
    ∷ (49 ∷ 48 ∷ [])
    ∷ (57 ∷ 57 ∷ [])
    ∷ (49 ∷ 48 ∷ 48 ∷ [])
    ∷ (50 ∷ 53 ∷ 54 ∷ [])
    ∷ (54 ∷ 53 ∷ 53 ∷ 51 ∷ 54 ∷ [])
    ∷ (52 ∷ 50 ∷ 57 ∷ 52 ∷ 57 ∷ 54 ∷ 55 ∷ 50 ∷ 57 ∷ 53 ∷ [])
    ∷ (52 ∷ 50 ∷ 57 ∷ 52 ∷ 57 ∷ 54 ∷ 55 ∷ 50 ∷ 57 ∷ 54 ∷ [])
    ∷ (49 ∷ 56 ∷ 52 ∷ 52 ∷ 54 ∷ 55 ∷ 52 ∷ 52 ∷ 48 ∷ 55 ∷ 51 ∷ 55 ∷ 48 ∷ 57 ∷ 53 ∷ 53 ∷ 49 ∷ 54 ∷ 49 ∷ 53 ∷ [])
    ∷ []
