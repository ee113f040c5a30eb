-- The table of specs/Examples.antt holds, by computation. Assumes nothing.
use mathlib.Core.Path.{◌≡◌, refl}
use mathlib.Core.List.{map}
use Rattle.base.specs.Lists.{tabulate, sum, all}
use Rattle.table.specs.Table.{total, entry_places}
use Rattle.table.specs.Whole.{whole, rounds_to}
use Rattle.refusals.specs.Due.{due, answer_of, after}
use Rattle.weighted_arrays.specs.Plan.{array_for}
use Rattle.byte_numbers.specs.Bytes.{number}
use Rattle.form.specs.Form.{decode, head_right, laid_out}
use Rattle.opening.specs.Open.{consistent}
use Rattle.drawing.specs.Draw.{draw_refusal}
use Rattle.drawing.specs.Examples.{draw_cases, drawn, said}

pub draws_hold : map drawn draw_cases ≡ map said draw_cases
unfolding draw_refusal answer_of after array_for due number head_right laid_out decode consistent tabulate sum all total entry_places whole rounds_to
draws_hold = refl
