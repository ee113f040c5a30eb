-- The tables of specs/Examples.antt, specs/Campaigns.antt and specs/Slips.antt hold, by computation, and the examples about every denominator. Assumes nothing.
use mathlib.Core.Path.{◌≡◌, refl}
use mathlib.Core.List.{[], ◌∷◌, map, zip_with}
use Prim.Native.Nat.{ℕ, ◌+◌, ◌*◌, ◌≤◌}
use native.Mathlib.Omega.{arith}
use borrow.Author.Tests.{le-leb, lt-leb}
use Rattle.base.specs.Lists.{tabulate, sum, sum_to, join_to, least, all}
use Rattle.refusals.specs.Due.{due, answer_of, after}
use Rattle.table.specs.Table.{total, entry_places}
use Rattle.table.specs.Whole.{whole, gap, rounds_to}
use Rattle.table.specs.Clauses.{check_of_cells, check_of, checked_number}
use Rattle.cell_order.specs.Order.{nth_row, nth_column, rank}
use Rattle.first_rounding.specs.Order.{in_order, array_of, first_of}
use Rattle.is_rounding.specs.Rounding.{is_rounding}
use Rattle.first_rounding.specs.First.{first_rounding}
use Rattle.weighted_arrays.specs.Plan.{array_for}
use Rattle.form.specs.Form.{encode, head, contents_entry, head_right, laid_out, decode}
use Rattle.byte_numbers.specs.Bytes.{bytes, number}
use Rattle.opening.specs.Open.{consistent}
use Rattle.planning.specs.Rounds.{limit_of, weight_of, without, rounds_from, plan_of}
use Rattle.plan.proofs.ZeroPlans.{zero_plan}
use Rattle.bits.specs.Bits.{bit_of}
use Rattle.records.specs.Record.{within, fits}
use Rattle.campaign_start.specs.Start.{start_refusal, cleared, started}
use Rattle.campaign_draw.specs.Draw.{campaign_refusal, taking, closed, made}
use Rattle.demands.specs.Runs.{draws, last_record, used, over_accepted, unused, one_more, further}
use Rattle.demands.specs.Resumed.{numbers_drawn}
use Rattle.demands.specs.Examples.{examples, computed, ExamplesHold}
use Rattle.demands.specs.Campaigns.{runs, said_of}
use Rattle.demands.specs.Slips.{SlipsShut, rounds_over_cells, mended, draws_counting_all}

rows_hold : map (λ x. computed x x.said) examples ≡ map (λ x. x.said) examples
unfolding plan_of rounds_from weight_of limit_of without tabulate sum least all total entry_places whole gap rounds_to nth_row nth_column rank in_order array_of first_of is_rounding first_rounding zip_with array_for check_of check_of_cells due
rows_hold = refl

module _ (d : ℕ) (some : 1 ≤ d) (h : d ≤ 65535) where
  taken : checked_number (check_of 1 1 d ((1000 * d) ∷ [])) ≡ 0
  unfolding check_of check_of_cells due all
  taken = simp (le-leb 1 d some, le-leb d 65535 h, le-leb (1000 * d) (1000 * d) (omega arith))

  above : checked_number (check_of 1 1 d ((1000 * d + 1) ∷ [])) ≡ 4
  unfolding check_of check_of_cells due all
  above = simp (le-leb 1 d some, le-leb d 65535 h, lt-leb (1000 * d + 1) (1000 * d) (omega arith))

pub examples_hold : ExamplesHold
unfolding numbers_drawn join_to bit_of number decode
examples_hold = record { rows = rows_hold; zeros = zero_plan; cell_taken = taken; cell_above = above; numbers_drawn_are = refl }

pub runs_hold : map (λ r. said_of r.plan r.given r.before r.list) runs ≡ map (λ r. r.said) runs
unfolding draws last_record used over_accepted unused one_more further started made start_refusal cleared campaign_refusal taking closed within fits bit_of sum_to array_for due answer_of after number decode head_right laid_out consistent tabulate sum all entry_places total whole rounds_to
runs_hold = refl

pub slips_shut : SlipsShut
unfolding rounds_over_cells mended draws_counting_all draws last_record over_accepted made campaign_refusal taking closed within fits bit_of sum_to array_for due answer_of after encode head contents_entry bytes join_to number decode head_right laid_out consistent plan_of rounds_from weight_of limit_of without tabulate sum least all total entry_places whole gap rounds_to nth_row nth_column rank in_order array_of first_of is_rounding first_rounding zip_with
slips_shut = record { right = refl; wrong = refl; mended_rounds = refl }
