-- The answer to a text, as the code holds it. Assumes nothing.
use Rattle.std.specs.Prelude.{List, ◌++◌, ℕ, ◌-◌, length, replicate, Option, Some, None}
use Rattle.parsing.specs.declared.Numbers.{Numbers}

-- some numbers, with zeros after them
abbrev pub padded : List ℕ → List ℕ
padded n = n ++ replicate (2048 - length n) 0

-- the numbers, or for `refused text` none
abbrev pub parsed_of : Option (List ℕ) → Option Numbers
parsed_of None = None
parsed_of (Some n) = Some (record { count = length n; numbers = padded n })
