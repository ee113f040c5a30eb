-- The tables of specs/Examples.antt hold, by computation. Assumes nothing.
use mathlib.Core.Path.{◌≡◌, refl}
use mathlib.Core.List.{map}
use Rattle.base.specs.Lists.{tabulate, sum, join_to, all}
use Rattle.table.specs.Table.{total, entry_places}
use Rattle.table.specs.Whole.{whole, rounds_to}
use Rattle.refusals.specs.Due.{due, answer_of}
use Rattle.byte_numbers.specs.Bytes.{number}
use Rattle.form.specs.Form.{decode, head_right, laid_out}
use Rattle.opening.specs.Open.{consistent, open_refusal, open_answer, part_refusal}
use Rattle.opening.specs.Examples.{cases, opened, parts, part_number}

pub cases_hold : map opened cases ≡ map (λ x. x.number) cases
unfolding open_answer open_refusal due join_to number head_right laid_out decode consistent tabulate sum all total entry_places whole rounds_to
cases_hold = refl

pub parts_hold : map part_number parts ≡ map (λ x. x.number) parts
unfolding part_refusal answer_of due join_to number head_right laid_out decode consistent tabulate sum all total entry_places whole rounds_to
parts_hold = refl
