-- The table of specs/Examples.antt holds, by computation. Assumes nothing.
use mathlib.Core.Path.{◌≡◌, refl}
use mathlib.Core.List.{map}
use Rattle.planning.specs.Rounds.{limit_of}
use Rattle.planning.specs.Examples.{limits, limited}

pub limits_hold : map limited limits ≡ map (λ x. x.limit) limits
unfolding limit_of
limits_hold = refl
