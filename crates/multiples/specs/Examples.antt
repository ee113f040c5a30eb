-- Literal cases of the least common multiple. Assumes nothing.
use Rattle.std.specs.Prelude.{List, [], ◌∷◌, ℕ}
use Rattle.multiples.specs.Multiple.{least_multiple}

-- two numbers and their least common multiple
pub record Case : Type 0 where
  pub first : ℕ
  pub second : ℕ
  pub multiple : ℕ

abbrev pub case : ℕ → ℕ → ℕ → Case
case a b m = record { first = a; second = b; multiple = m }

abbrev pub multiple : Case → ℕ
multiple x = least_multiple x.first x.second

abbrev pub cases : List Case
cases =
    case 1 1 1
    -- equal, with a common divisor, coprime, one dividing the other
    ∷ case 12 12 12
    ∷ case 10 4 20
    ∷ case 4 10 20
    ∷ case 7 5 35
    ∷ case 3 12 12
    ∷ case 12 3 12
    ∷ case 1 9 9
    -- the largest denominator, and the least multiple above it that two denominators have
    ∷ case 255 257 65535
    ∷ case 2 32769 65538
    ∷ []
