-- The examples hold, by computing both sides. Assumes nothing.
use mathlib.Core.Path.{◌≡◌, refl}
use mathlib.Core.List.{map, zip_with}
use Rattle.base.specs.Lists.{tabulate, sum, least, all}
use Rattle.table.specs.Table.{total, entry_places}
use Rattle.table.specs.Whole.{whole, gap, rounds_to}
use Rattle.refusals.specs.Due.{due}
use Rattle.table.specs.Check.{table_refusal}
use Rattle.cell_order.specs.Order.{nth_row, nth_column, rank}
use Rattle.first_rounding.specs.Order.{in_order, array_of, first_of}
use Rattle.is_rounding.specs.Rounding.{is_rounding}
use Rattle.first_rounding.specs.First.{first_rounding}
use Rattle.planning.specs.Rounds.{limit_of, weight_of, without, rounds_from, plan_of}
use Rattle.printing.specs.Lines.{digits, decimal, spaced, line, refused}
use Rattle.parsing.specs.Text.{numbers_from, parse}
use Rattle.plan_text.specs.Text.{printed_lines, line_numbers, listing, output}
use Rattle.plan_text.specs.Examples.{outputs}

pub printed : map (λ o. output o.text) outputs ≡ map (λ o. o.prints) outputs
unfolding parse numbers_from all decimal digits spaced line printed_lines line_numbers listing refused output table_refusal due plan_of rounds_from weight_of limit_of without tabulate sum least total entry_places whole gap rounds_to nth_row nth_column rank in_order array_of first_of is_rounding first_rounding zip_with
printed = refl
