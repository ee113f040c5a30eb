-- The plans of specs/Examples.antt hold what is said of them, by computation. Assumes nothing.
use mathlib.Core.Path.{◌≡◌, refl}
use mathlib.Core.Bool.{true}
use mathlib.Core.List.{map}
use Rattle.base.specs.Lists.{tabulate, join_to, all}
use Rattle.byte_numbers.specs.Bytes.{bytes, number}
use Rattle.form.specs.Form.{head, contents_entry, encode, decode, head_right, laid_out}
use Rattle.form.specs.Examples.{stored}

pub laid_hold : all (λ x. laid_out x.bytes) stored ≡ true
unfolding laid_out head_right number tabulate all
laid_hold = refl

pub read_hold : map (λ x. decode x.bytes) stored ≡ map (λ x. x.plan) stored
unfolding decode number tabulate
read_hold = refl

pub stored_hold : map (λ x. encode x.plan) stored ≡ map (λ x. x.bytes) stored
unfolding encode head contents_entry bytes join_to
stored_hold = refl
