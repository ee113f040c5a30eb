-- The tables of specs/Examples.antt hold, by computation. Assumes nothing.
use mathlib.Core.Path.{◌≡◌, refl}
use mathlib.Core.List.{map, zip_with}
use Rattle.base.specs.Lists.{tabulate, sum, join_to, least, all}
use Rattle.refusals.specs.Due.{due, after}
use Rattle.table.specs.Table.{total, entry_places}
use Rattle.table.specs.Whole.{whole, gap, rounds_to}
use Rattle.cell_order.specs.Order.{nth_row, nth_column, rank}
use Rattle.first_rounding.specs.Order.{in_order, array_of, first_of}
use Rattle.is_rounding.specs.Rounding.{is_rounding}
use Rattle.first_rounding.specs.First.{first_rounding}
use Rattle.form.specs.Form.{encode, head, contents_entry}
use Rattle.byte_numbers.specs.Bytes.{bytes}
use Rattle.planning.specs.Rounds.{limit_of, weight_of, without, rounds_from, plan_of}
use Rattle.plan.specs.Call.{plan_bytes, plan_refusal, plan_answer}
use Rattle.plan.specs.Examples.{calls, planned, said}

pub calls_hold : map planned calls ≡ map said calls
unfolding plan_answer plan_refusal plan_bytes due after encode head contents_entry bytes join_to plan_of rounds_from weight_of limit_of without tabulate sum least all total entry_places whole gap rounds_to nth_row nth_column rank in_order array_of first_of is_rounding first_rounding zip_with
calls_hold = refl
