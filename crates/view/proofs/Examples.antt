-- The tables of specs/Examples.antt hold, by computation. Assumes nothing.
use mathlib.Core.Path.{◌≡◌, refl}
use mathlib.Core.List.{map}
use Rattle.base.specs.Lists.{tabulate, sum, all}
use Rattle.table.specs.Table.{total, entry_places}
use Rattle.table.specs.Whole.{whole, rounds_to}
use Rattle.refusals.specs.Due.{due}
use Rattle.byte_numbers.specs.Bytes.{number}
use Rattle.form.specs.Form.{decode, head_right, laid_out}
use Rattle.view.specs.Find.{found_weight, found_count}
use Rattle.opening.specs.Open.{consistent, open_refusal, open_answer}
use Rattle.view.specs.View.{weight_answer, count_answer}
use Rattle.view.specs.Examples.{summaries, summaries_found, weights, weights_found, places, count_found}

pub summaries_hold : summaries_found ≡ summaries
unfolding open_answer open_refusal due number head_right laid_out decode consistent tabulate sum all total entry_places whole rounds_to
summaries_hold = refl

pub weights_hold : weights_found ≡ weights
unfolding weight_answer found_weight open_answer open_refusal due number head_right laid_out decode consistent tabulate sum all total entry_places whole rounds_to
weights_hold = refl

pub counts_hold : map count_found places ≡ map (λ x. x.count) places
unfolding count_answer found_count open_answer open_refusal due number head_right laid_out decode consistent tabulate sum all total entry_places whole rounds_to
counts_hold = refl
