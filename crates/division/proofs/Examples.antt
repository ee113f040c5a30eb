-- The table of specs/Examples.antt holds, by computation. Assumes nothing.
use mathlib.Core.Path.{◌≡◌, refl}
use mathlib.Core.List.{map}
use Rattle.division.specs.Examples.{cases, divided}

pub cases_hold : map divided cases ≡ map (λ x. x.parts) cases
cases_hold = refl
