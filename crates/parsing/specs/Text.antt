-- Texts and the numbers in them (specification, "The printing program"). Assumes nothing.
use Rattle.std.specs.Prelude.{Bool, true, false, cond, ◌&&◌, ◌||◌, List, [], ◌∷◌, ℕ, ◌+◌, ◌-◌, ◌*◌, length, leb, eqb, Option, Some, None}
use Rattle.base.specs.Lists.{all}

-- the longest text
abbrev pub max_text : ℕ
max_text = 4096

-- a byte that is a digit, 0 to 9
abbrev pub is_digit : ℕ → Bool
is_digit x = leb 48 x && leb x 57

-- a space or a line end
abbrev pub is_gap : ℕ → Bool
is_gap x = eqb x 32 || eqb x 10

-- a byte that may stand in the text
abbrev pub is_text : ℕ → Bool
is_text x = is_digit x || is_gap x

-- the numbers in some bytes, each a run of digits; `some v` is the value of the digits just read, if any. (The last case goes one way only, where `cond` would compute both.)
unfoldable pub numbers_from : Option ℕ → List ℕ → List ℕ
numbers_from None [] = []
numbers_from (Some v) [] = v ∷ []
numbers_from None (x ∷ l) = cond (is_digit x) (numbers_from (Some (x - 48)) l) (numbers_from None l)
numbers_from (Some v) (x ∷ l) = elim (is_digit x) [ true ↦ numbers_from (Some (v * 10 + (x - 48))) l | false ↦ v ∷ numbers_from None l ]

-- the highest number
abbrev pub max_number : ℕ
max_number = 4294967295

abbrev pub is_number : ℕ → Bool
is_number x = leb x max_number

-- the numbers of a text; none where it is too long, has another byte, fewer than three numbers or one that is too high
unfoldable pub parse : List ℕ → Option (List ℕ)
parse s =
    let n = numbers_from None s in
    cond (leb (length s) max_text) (cond (all is_text s) (cond (leb 3 (length n)) (cond (all is_number n) (Some n) None) None) None) None
