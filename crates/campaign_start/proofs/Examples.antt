-- The table of specs/Examples.antt holds, by computation. Assumes nothing.
use mathlib.Core.Path.{◌≡◌, refl}
use mathlib.Core.List.{map}
use Rattle.base.specs.Lists.{tabulate, sum, all}
use Rattle.table.specs.Table.{entry_places, total}
use Rattle.table.specs.Whole.{whole, rounds_to}
use Rattle.refusals.specs.Due.{due, answer_of, after}
use Rattle.byte_numbers.specs.Bytes.{number}
use Rattle.form.specs.Form.{decode, head_right, laid_out}
use Rattle.opening.specs.Open.{consistent}
use Rattle.campaign_start.specs.Start.{start_refusal, cleared, started}
use Rattle.campaign_start.specs.Examples.{outcome_of, starts}

pub starts_hold : map outcome_of starts ≡ map (λ r. r.outcome) starts
unfolding started start_refusal cleared due answer_of after number decode head_right laid_out consistent tabulate sum all entry_places total whole rounds_to
starts_hold = refl
