-- The examples hold, by computing both sides. Assumes nothing.
use mathlib.Core.Path.{◌≡◌, refl}
use mathlib.Core.List.{map}
use Rattle.base.specs.Lists.{tabulate, sum, join_to, all, sumℤ}
use Rattle.table.specs.Table.{total, entry_places}
use Rattle.table.specs.Whole.{whole, rounds_to}
use Rattle.refusals.specs.Due.{due}
use Rattle.byte_numbers.specs.Bytes.{number}
use Rattle.form.specs.Form.{decode, head_right, laid_out}
use Rattle.opening.specs.Open.{consistent, open_refusal}
use Rattle.covariances.specs.Covariance.{covariance, extreme, covariances}
use Rattle.variances.specs.Variance.{numerators}
use Rattle.printing.specs.Lines.{digits, decimal, spaced, line, refused}
use Rattle.variance_text.specs.VarianceText.{signed, rest_of_line, plan_text, goes_on, printed_from, to_read, plans_to, program_text}
use Rattle.variance_text.specs.Examples.{numbers, numerals, heads, programs}

pub signs_are : map signed numbers ≡ numerals
unfolding signed decimal digits
signs_are = refl

pub heads_are : map (λ x. to_read x.bytes) heads ≡ map (λ x. x.reads) heads
unfolding to_read number
heads_are = refl

pub programs_are : map (λ x. program_text x.input) programs ≡ map (λ x. x.prints) programs
unfolding program_text plans_to to_read printed_from goes_on plan_text rest_of_line signed decimal digits refused line spaced numerators covariances covariance sumℤ extreme open_refusal due number head_right laid_out decode consistent tabulate sum join_to all total entry_places whole rounds_to
programs_are = refl
