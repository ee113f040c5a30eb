-- The table of specs/Examples.antt holds, by computation. Assumes nothing.
use mathlib.Core.Path.{◌≡◌, refl}
use mathlib.Core.List.{map}
use Rattle.base.specs.Lists.{tabulate, sum, all}
use Rattle.refusals.specs.Due.{due, answer_of, after}
use Rattle.table.specs.Table.{entry_places, total}
use Rattle.table.specs.Whole.{whole, gap, rounds_to}
use Rattle.cell_order.specs.Order.{nth_row, nth_column, rank}
use Rattle.first_rounding.specs.Order.{in_order, array_of, first_of}
use Rattle.is_rounding.specs.Rounding.{is_rounding}
use Rattle.first_rounding.specs.First.{first_rounding}
use Rattle.rounding.specs.Call.{round_refusal}
use Rattle.rounding.specs.Examples.{round_cases, rounded, said}

pub rounds_hold : map rounded round_cases ≡ map said round_cases
unfolding round_refusal due answer_of after first_rounding first_of in_order array_of nth_row nth_column rank is_rounding rounds_to whole gap total entry_places tabulate sum all
rounds_hold = refl
