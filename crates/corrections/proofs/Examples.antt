-- The tables of specs/Examples.antt hold, by computation. Assumes nothing.
use mathlib.Core.Path.{◌≡◌, refl}
use mathlib.Core.List.{map}
use Rattle.base.specs.Lists.{tabulate, sumℤ, all}
use Rattle.refusals.specs.Due.{due, answer_of, after}
use Rattle.table.specs.Table.{entry_places}
use Rattle.cell_order.specs.Order.{nth_row, nth_column, rank}
use Rattle.first_rounding.specs.Order.{in_order, array_of, first_of}
use Rattle.corrections.specs.Rounding.{total, rounds_to, is_rounding, first_rounding}
use Rattle.corrections.specs.Call.{round_refusal}
use Rattle.corrections.specs.Examples.{rounded, rounded_of, candidates, rounds_sheet, calls, outcome, said}

pub rounded_hold : map rounded_of rounded ≡ rounded
unfolding rounds_to
rounded_hold = refl

pub candidates_hold : map rounds_sheet candidates ≡ map (λ x. x.rounds) candidates
unfolding is_rounding rounds_to total entry_places tabulate sumℤ all
candidates_hold = refl

pub calls_hold : map outcome calls ≡ map said calls
unfolding round_refusal due answer_of after first_rounding first_of in_order array_of nth_row nth_column rank is_rounding rounds_to total entry_places tabulate sumℤ all
calls_hold = refl
