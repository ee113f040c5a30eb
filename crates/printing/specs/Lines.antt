-- Numbers, lines and refusals as text (specification, "The printing program"). Assumes nothing.
use Rattle.std.specs.Prelude.{cond, List, [], ◌∷◌, ◌++◌, ℕ, zero, suc, ◌+◌, ◌/◌, ◌%◌, ltb}

-- the digits, in base ten, of a number of at most n + 1 digits, and of one of 64 bits, which has at most 20
unfoldable pub digits : ℕ → ℕ → List ℕ
digits zero x = (48 + x) ∷ []
digits (suc n) x = cond (ltb x 10) ((48 + x) ∷ []) (digits n (x / 10) ++ ((48 + x % 10) ∷ []))

unfoldable pub decimal : ℕ → List ℕ
decimal x = digits 19 x

-- one space between the numbers
unfoldable pub spaced : List ℕ → List ℕ
spaced [] = []
spaced (x ∷ []) = decimal x
spaced (x ∷ y ∷ l) = decimal x ++ (32 ∷ spaced (y ∷ l))

-- a line ends with byte 10
unfoldable pub line : List ℕ → List ℕ
line l = spaced l ++ (10 ∷ [])

-- the bytes of "refused"
abbrev pub refused_word : List ℕ
refused_word = 114 ∷ 101 ∷ 102 ∷ 117 ∷ 115 ∷ 101 ∷ 100 ∷ []

-- the word, a space and the refusal's number
unfoldable pub refused : ℕ → List ℕ
refused n = refused_word ++ (32 ∷ line (n ∷ []))
