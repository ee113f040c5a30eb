-- The table of specs/Examples.antt holds, by computation. Assumes nothing.
use mathlib.Core.Path.{◌≡◌, refl}
use mathlib.Core.List.{map, zip_with}
use Rattle.base.specs.Lists.{tabulate, sum, least, all}
use Rattle.base.specs.Search.{first_that}
use Rattle.refusals.specs.Due.{due, answer_of, after}
use Rattle.table.specs.Table.{total, entry_places}
use Rattle.table.specs.Whole.{whole, gap, rounds_to}
use Rattle.cell_order.specs.Order.{nth_row, nth_column, rank}
use Rattle.first_rounding.specs.Order.{in_order, array_of, first_of}
use Rattle.is_rounding.specs.Rounding.{is_rounding}
use Rattle.first_rounding.specs.First.{first_rounding}
use Rattle.planning.specs.Rounds.{limit_of, weight_of, without, rounds_from, plan_of}
use Rattle.reasons.specs.Reason.{named_entries, set_by, all_whole, reason_of}
use Rattle.reasons.specs.Call.{reason_refusal, reason_answer}
use Rattle.reason_numbers.specs.Numbers.{reply_refusal}
use Rattle.reason_numbers.specs.Examples.{calls, replied, said}

pub calls_hold : map replied calls ≡ map said calls
unfolding reply_refusal reason_refusal reason_answer reason_of set_by all_whole named_entries first_that due answer_of after plan_of rounds_from weight_of limit_of without tabulate sum least all total entry_places whole gap rounds_to nth_row nth_column rank in_order array_of first_of is_rounding first_rounding zip_with
calls_hold = refl
