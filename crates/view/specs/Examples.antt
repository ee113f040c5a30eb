-- What a view of a plan that is typed out byte by byte says: arrays are counted from 1, rows and columns from 0. Assumes nothing.
use Rattle.std.specs.Prelude.{List, [], ◌∷◌, map, ℕ, Option, Some, None, Result, Ok, Err}
use Rattle.refusals.specs.declared.Refusal.{Refusal}
use Rattle.refusals.specs.declared.Refusal.TheVariants.{Layout}
use Rattle.form.specs.declared.Sizes.{Sizes}
use Rattle.form.specs.Examples.{wide, largest}
use Rattle.opening.specs.Open.{open_answer}
use Rattle.view.specs.View.{weight_answer, count_answer}

-- what opening its bytes, those with the largest denominator, and no bytes, finds
abbrev pub summaries : List (Result Sizes Refusal)
summaries =
    Ok (record { rows = 2; columns = 3; arrays = 7; denominator = 1000 })
    ∷ Ok (record { rows = 1; columns = 1; arrays = 1; denominator = 65535 })
    ∷ Err Layout
    ∷ []

abbrev pub summaries_found : List (Result Sizes Refusal)
summaries_found = open_answer wide ∷ open_answer largest ∷ open_answer [] ∷ []

-- the weights of arrays 0 to 8: the first and the last are none, and so are those of which only the low part is a number of an array
abbrev pub weights : List (Option ℕ)
weights =
    None ∷ Some 100 ∷ Some 494 ∷ Some 1 ∷ Some 5 ∷ Some 176 ∷ Some 160 ∷ Some 64 ∷ None
    ∷ None ∷ None ∷ None ∷ None ∷ []

abbrev pub weights_found : List (Option ℕ)
weights_found =
    map (weight_answer wide (open_answer wide))
    (0 ∷ 1 ∷ 2 ∷ 3 ∷ 4 ∷ 5 ∷ 6 ∷ 7 ∷ 8
    ∷ 257 ∷ 65537 ∷ 4294967297 ∷ 18446744073709551615 ∷ [])

-- a count of an array, by row and column
pub record Place : Type 0 where
  pub array : ℕ
  pub row : ℕ
  pub column : ℕ
  pub count : Option ℕ

abbrev pub at : ℕ → ℕ → ℕ → Option ℕ → Place
at k p q n = record { array = k; row = p; column = q; count = n }

abbrev pub places : List Place
places =
    at 7 0 0 (Some 301)
    ∷ at 7 0 2 (Some 65)
    ∷ at 7 1 0 (Some 1)
    ∷ at 2 1 0 (Some 2)
    ∷ at 2 1 2 (Some 1)
    -- no array 0 or 8, no row 2, no column 3
    ∷ at 0 0 0 None
    ∷ at 8 0 0 None
    ∷ at 1 2 0 None
    ∷ at 1 0 3 None
    -- nor any of which only the low part is there
    ∷ at 257 0 0 None
    ∷ at 65537 0 0 None
    ∷ at 4294967297 0 0 None
    ∷ at 1 256 0 None
    ∷ at 1 65536 0 None
    ∷ at 1 4294967296 0 None
    ∷ at 1 0 256 None
    ∷ at 1 0 65536 None
    ∷ at 1 0 4294967296 None
    ∷ []

abbrev pub count_found : Place → Option ℕ
count_found x = count_answer wide (open_answer wide) x.array x.row x.column
