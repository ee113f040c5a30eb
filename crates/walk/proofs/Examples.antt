-- The tables of specs/Examples.antt hold, by computation. Assumes nothing.
use mathlib.Core.Path.{◌≡◌, refl}
use mathlib.Core.List.{map}
use Rattle.base.specs.Lists.{tabulate, sum, all}
use Rattle.refusals.specs.Due.{due, answer_of, after}
use Rattle.table.specs.Table.{entry_places, total}
use Rattle.table.specs.Whole.{whole, gap, rounds_to}
use Rattle.cell_order.specs.Order.{nth_row, nth_column, rank}
use Rattle.first_rounding.specs.Order.{in_order, array_of, first_of}
use Rattle.is_rounding.specs.Rounding.{is_rounding}
use Rattle.first_rounding.specs.First.{first_rounding}
use Rattle.next_rounding.specs.Next.{next_rounding}
use Rattle.walk.specs.Call.{first_refusal, next_refusal, next_answer, next_left}
use Rattle.walk.specs.Examples.{firsts, first_says, said_first, steps, step_says, said_step}

pub firsts_hold : map first_says firsts ≡ map said_first firsts
unfolding first_refusal due answer_of after first_rounding first_of in_order array_of nth_row nth_column rank is_rounding rounds_to whole gap total entry_places tabulate sum all
firsts_hold = refl

pub steps_hold : map step_says steps ≡ map said_step steps
unfolding next_refusal next_answer next_left next_rounding due after first_of in_order array_of nth_row nth_column rank is_rounding rounds_to whole gap total entry_places tabulate sum all
steps_hold = refl
