-- Texts, and what they are parsed to (specification, "The printing program"). Assumes nothing.
use Rattle.std.specs.Prelude.{List, [], ◌∷◌, ◌++◌, ℕ, ◌+◌, replicate, Option, Some, None}
use Rattle.base.specs.Lists.{tabulate}

-- an input and what it is parsed to
pub record Parse : Type 0 where
  pub text : List ℕ
  pub numbers : Option (List ℕ)

abbrev pub reads : List ℕ → List ℕ → Parse
reads s n = record { text = s; numbers = Some n }

abbrev pub refuses : List ℕ → Parse
refuses s = record { text = s; numbers = None }

-- 1 2 3 with another byte after it
abbrev pub three_and : ℕ → List ℕ
three_and x = 49 ∷ 32 ∷ 50 ∷ 32 ∷ 51 ∷ x ∷ []

-- so many bytes from a first one on, each of which makes 1 2 3 no text
abbrev pub refuse_from : ℕ → ℕ → List Parse
refuse_from first count = tabulate count (λ k. refuses (three_and (first + k)))

-- every byte after 1 2 3: a line end, a space and the ten digits are text, and no other
abbrev pub bytes : List Parse
bytes =
    refuse_from 0 10
    ++ reads (three_and 10) (1 ∷ 2 ∷ 3 ∷ [])
    ∷ refuse_from 11 21
    ++ reads (three_and 32) (1 ∷ 2 ∷ 3 ∷ [])
    ∷ refuse_from 33 15
    ++ tabulate 10 (λ k. reads (three_and (48 + k)) (1 ∷ 2 ∷ (30 + k) ∷ []))
    ++ refuse_from 58 198

abbrev pub parses : List Parse
parses =
    -- 2 2 10 3 4 5 6
    reads (50 ∷ 32 ∷ 50 ∷ 32 ∷ 49 ∷ 48 ∷ 32 ∷ 51 ∷ 32 ∷ 52 ∷ 32 ∷ 53 ∷ 32 ∷ 54 ∷ []) (2 ∷ 2 ∷ 10 ∷ 3 ∷ 4 ∷ 5 ∷ 6 ∷ [])
    -- nothing; spaces only; two numbers; three
    ∷ refuses []
    ∷ refuses (32 ∷ 10 ∷ 32 ∷ [])
    ∷ refuses (49 ∷ 32 ∷ 50 ∷ [])
    ∷ reads (49 ∷ 32 ∷ 50 ∷ 32 ∷ 51 ∷ []) (1 ∷ 2 ∷ 3 ∷ [])
    -- leading and trailing spaces and line ends, several between; leading zeros
    ∷ reads (10 ∷ 32 ∷ 49 ∷ 10 ∷ 10 ∷ 50 ∷ 32 ∷ 10 ∷ 32 ∷ 51 ∷ 10 ∷ 32 ∷ []) (1 ∷ 2 ∷ 3 ∷ [])
    ∷ reads (48 ∷ 48 ∷ 49 ∷ 32 ∷ 48 ∷ 32 ∷ 48 ∷ 48 ∷ 50 ∷ []) (1 ∷ 0 ∷ 2 ∷ [])
    -- after 1 2 3: a tab, a carriage return, a minus sign, a zero byte, the bytes before 0 and after 9
    ∷ refuses (49 ∷ 32 ∷ 50 ∷ 32 ∷ 51 ∷ 9 ∷ [])
    ∷ refuses (49 ∷ 32 ∷ 50 ∷ 32 ∷ 51 ∷ 13 ∷ 10 ∷ [])
    ∷ refuses (49 ∷ 32 ∷ 50 ∷ 32 ∷ 51 ∷ 32 ∷ 45 ∷ 49 ∷ [])
    ∷ refuses (49 ∷ 32 ∷ 50 ∷ 32 ∷ 51 ∷ 0 ∷ [])
    ∷ refuses (49 ∷ 32 ∷ 50 ∷ 32 ∷ 51 ∷ 47 ∷ [])
    ∷ refuses (49 ∷ 32 ∷ 50 ∷ 32 ∷ 51 ∷ 58 ∷ [])
    -- 1 2 4294967295 and 1 2 4294967296
    ∷ reads (49 ∷ 32 ∷ 50 ∷ 32 ∷ 52 ∷ 50 ∷ 57 ∷ 52 ∷ 57 ∷ 54 ∷ 55 ∷ 50 ∷ 57 ∷ 53 ∷ []) (1 ∷ 2 ∷ 4294967295 ∷ [])
    ∷ refuses (49 ∷ 32 ∷ 50 ∷ 32 ∷ 52 ∷ 50 ∷ 57 ∷ 52 ∷ 57 ∷ 54 ∷ 55 ∷ 50 ∷ 57 ∷ 54 ∷ [])
    -- numbers of which only the low 32, 64 or 128 bits are no more than 4,294,967,295: 1 2 4294967297, 4294967297 2 3, 1 4294967297 3, 1 2 3 4294967297,
    -- 1 2 18446744073709551616, 1 2 18446744073709551617 and 1 2 340282366920938463463374607431768211457
    ∷ refuses (49 ∷ 32 ∷ 50 ∷ 32 ∷ 52 ∷ 50 ∷ 57 ∷ 52 ∷ 57 ∷ 54 ∷ 55 ∷ 50 ∷ 57 ∷ 55 ∷ [])
    ∷ refuses (52 ∷ 50 ∷ 57 ∷ 52 ∷ 57 ∷ 54 ∷ 55 ∷ 50 ∷ 57 ∷ 55 ∷ 32 ∷ 50 ∷ 32 ∷ 51 ∷ [])
    ∷ refuses (49 ∷ 32 ∷ 52 ∷ 50 ∷ 57 ∷ 52 ∷ 57 ∷ 54 ∷ 55 ∷ 50 ∷ 57 ∷ 55 ∷ 32 ∷ 51 ∷ [])
    ∷ refuses (49 ∷ 32 ∷ 50 ∷ 32 ∷ 51 ∷ 32 ∷ 52 ∷ 50 ∷ 57 ∷ 52 ∷ 57 ∷ 54 ∷ 55 ∷ 50 ∷ 57 ∷ 55 ∷ [])
    ∷ refuses (49 ∷ 32 ∷ 50 ∷ 32 ∷ 49 ∷ 56 ∷ 52 ∷ 52 ∷ 54 ∷ 55 ∷ 52 ∷ 52 ∷ 48 ∷ 55 ∷ 51 ∷ 55 ∷ 48 ∷ 57 ∷ 53 ∷ 53 ∷ 49 ∷ 54 ∷ 49 ∷ 54 ∷ [])
    ∷ refuses (49 ∷ 32 ∷ 50 ∷ 32 ∷ 49 ∷ 56 ∷ 52 ∷ 52 ∷ 54 ∷ 55 ∷ 52 ∷ 52 ∷ 48 ∷ 55 ∷ 51 ∷ 55 ∷ 48 ∷ 57 ∷ 53 ∷ 53 ∷ 49 ∷ 54 ∷ 49 ∷ 55 ∷ [])
    ∷ refuses
    (49 ∷ 32 ∷ 50 ∷ 32 ∷ 51 ∷ 52 ∷ 48 ∷ 50 ∷ 56 ∷ 50 ∷ 51 ∷ 54 ∷ 54 ∷ 57 ∷ 50 ∷ 48 ∷ 57 ∷ 51 ∷ 56 ∷ 52 ∷ 54 ∷ 51 ∷ 52
    ∷ 54 ∷ 51 ∷ 51 ∷ 55 ∷ 52 ∷ 54 ∷ 48 ∷ 55 ∷ 52 ∷ 51 ∷ 49 ∷ 55 ∷ 54 ∷ 56 ∷ 50 ∷ 49 ∷ 49 ∷ 52 ∷ 53 ∷ 55 ∷ [])
    -- 40 zeros before a number
    ∷ reads (49 ∷ 32 ∷ 50 ∷ 32 ∷ replicate 40 48 ++ (51 ∷ [])) (1 ∷ 2 ∷ 3 ∷ [])
    -- 1 2 3 and spaces, 4,096 bytes and 4,097
    ∷ reads (49 ∷ 32 ∷ 50 ∷ 32 ∷ 51 ∷ replicate 4091 32) (1 ∷ 2 ∷ 3 ∷ [])
    ∷ refuses (49 ∷ 32 ∷ 50 ∷ 32 ∷ 51 ∷ replicate 4092 32)
    ∷ bytes
