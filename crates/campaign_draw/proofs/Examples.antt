-- The table of specs/Examples.antt holds, by computation. Assumes nothing.
use mathlib.Core.Path.{◌≡◌, refl}
use mathlib.Core.List.{map}
use Rattle.base.specs.Lists.{tabulate, sum, sum_to, all}
use Rattle.table.specs.Table.{entry_places, total}
use Rattle.table.specs.Whole.{whole, rounds_to}
use Rattle.refusals.specs.Due.{due, answer_of, after}
use Rattle.weighted_arrays.specs.Plan.{array_for}
use Rattle.byte_numbers.specs.Bytes.{number}
use Rattle.form.specs.Form.{decode, head_right, laid_out}
use Rattle.opening.specs.Open.{consistent}
use Rattle.bits.specs.Bits.{bit_of}
use Rattle.records.specs.Record.{within, fits}
use Rattle.campaign_draw.specs.Draw.{campaign_refusal, taking, closed, made}
use Rattle.campaign_draw.specs.Examples.{outcome_of, draws}

pub draws_hold : map outcome_of draws ≡ map (λ r. r.outcome) draws
unfolding made campaign_refusal taking closed within fits bit_of sum_to array_for due answer_of after number decode head_right laid_out consistent tabulate sum all entry_places total whole rounds_to
draws_hold = refl
