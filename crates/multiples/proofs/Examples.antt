-- The table of specs/Examples.antt holds, by computation. Assumes nothing.
use mathlib.Core.Path.{◌≡◌, refl}
use mathlib.Core.List.{map}
use Rattle.base.specs.Search.{first_from}
use Rattle.multiples.specs.Multiple.{least_multiple}
use Rattle.multiples.specs.Examples.{cases, multiple}

pub cases_hold : map multiple cases ≡ map (λ x. x.multiple) cases
unfolding least_multiple first_from
cases_hold = refl
