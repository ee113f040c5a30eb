-- What a draw from a plan gives (specification, "Stored plan, form 1" and "Refusals"). Assumes nothing.
use Rattle.std.specs.Prelude.{List, [], ◌∷◌, ◌++◌, ℕ, ◌*◌, leb, ltb, Option}
use Rattle.refusals.specs.declared.Refusal.{Refusal}
use Rattle.refusals.specs.declared.Refusal.TheVariants.{Buffer, Number}
use Rattle.refusals.specs.Due.{Test, refuse, due}
use Rattle.weighted_arrays.specs.Plan.{array_for}
use Rattle.form.specs.Form.{rows_of, columns_of, denominator_of, decode}
use Rattle.opening.specs.Open.{open_tests}

-- the refusals of the call "draw", with a buffer of `room` counts: those of opening; 7, the buffer is shorter than the array; 8, the number is not below D
abbrev pub draw_tests : List ℕ → ℕ → ℕ → List Test
draw_tests b d room =
    open_tests b ++ (refuse Buffer (ltb room (rows_of b * columns_of b)) ∷ refuse Number (leb (denominator_of b) d) ∷ [])

unfoldable pub draw_refusal : List ℕ → ℕ → ℕ → Option Refusal
draw_refusal b d room = due (draw_tests b d room)

-- the array that belongs to a draw number of a stored plan
abbrev pub drawn_array : List ℕ → ℕ → List ℕ
drawn_array b d = array_for (decode b).arrays d
