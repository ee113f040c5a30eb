-- The table of specs/Examples.antt holds, by computation. Assumes nothing.
use mathlib.Core.Path.{◌≡◌, refl}
use mathlib.Core.List.{map}
use Rattle.base.specs.Lists.{tabulate, all}
use Rattle.parsing.specs.Text.{numbers_from, parse}
use Rattle.parsing.specs.Examples.{parses}

pub parsed : map (λ p. parse p.text) parses ≡ map (λ p. p.numbers) parses
unfolding parse numbers_from tabulate all
parsed = refl
