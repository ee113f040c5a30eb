-- What the call that tells a stored plan's sizes writes (specification, "From table to campaign"). Assumes nothing.
use Rattle.std.specs.Prelude.{List, [], ◌∷◌, ℕ}
use Rattle.form.specs.Form.{rows_of, columns_of, arrays_of, denominator_of}

-- the sizes of a plan as numbers: rows, columns, arrays, denominator
abbrev pub size_numbers : List ℕ → List ℕ
size_numbers b = rows_of b ∷ columns_of b ∷ arrays_of b ∷ denominator_of b ∷ []
