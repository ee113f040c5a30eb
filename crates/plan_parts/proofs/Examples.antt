-- The tables of specs/Examples.antt hold, by computation. Assumes nothing.
use mathlib.Core.Path.{◌≡◌, refl}
use mathlib.Core.List.{map}
use Rattle.base.specs.Lists.{tabulate, sum, all}
use Rattle.table.specs.Table.{total, entry_places}
use Rattle.table.specs.Whole.{whole, rounds_to}
use Rattle.refusals.specs.Due.{due, answer_of, after}
use Rattle.byte_numbers.specs.Bytes.{number}
use Rattle.form.specs.Form.{decode, head_right, laid_out}
use Rattle.opening.specs.Open.{consistent, part_refusal}
use Rattle.plan_parts.specs.Array.{array_refusal}
use Rattle.plan_parts.specs.Examples.{size_cases, told_sizes, cell_cases, told_cells, said, array_cases, told_array, said_array}

pub sizes_hold : map told_sizes size_cases ≡ map said size_cases
unfolding part_refusal due answer_of after number head_right laid_out decode consistent tabulate sum all total entry_places whole rounds_to
sizes_hold = refl

pub cells_hold : map told_cells cell_cases ≡ map said cell_cases
unfolding part_refusal due answer_of after number head_right laid_out decode consistent tabulate sum all total entry_places whole rounds_to
cells_hold = refl

pub arrays_hold : map told_array array_cases ≡ map said_array array_cases
unfolding array_refusal due answer_of after number head_right laid_out decode consistent tabulate sum all total entry_places whole rounds_to
arrays_hold = refl
