-- The literal cases hold, by computing both sides. Assumes nothing.
use mathlib.Core.Path.{◌≡◌, refl}
use mathlib.Core.List.{map}
use Rattle.base.specs.Lists.{tabulate, sum, join_to, all, sumℤ}
use Rattle.table.specs.Table.{total, entry_places}
use Rattle.table.specs.Whole.{whole, rounds_to}
use Rattle.refusals.specs.Due.{due, answer_of, after}
use Rattle.byte_numbers.specs.Bytes.{number}
use Rattle.form.specs.Form.{decode, head_right, laid_out}
use Rattle.opening.specs.Open.{consistent, part_refusal}
use Rattle.covariances.specs.Covariance.{covariance, extreme, covariances}
use Rattle.variances.specs.Variance.{numerators}
use Rattle.variances.specs.Examples.{cases, told, said}

pub cases_told : map told cases ≡ map said cases
unfolding part_refusal due answer_of after number decode head_right laid_out consistent tabulate sum join_to all entry_places total whole rounds_to covariance sumℤ extreme covariances numerators
cases_told = refl
