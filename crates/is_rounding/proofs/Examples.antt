-- The table of specs/Examples.antt holds, by computation. Assumes nothing.
use mathlib.Core.Path.{◌≡◌, refl}
use mathlib.Core.List.{map}
use Rattle.base.specs.Lists.{tabulate, sum, all}
use Rattle.table.specs.Table.{entry_places, total}
use Rattle.table.specs.Whole.{whole, rounds_to}
use Rattle.is_rounding.specs.Rounding.{is_rounding}
use Rattle.is_rounding.specs.Examples.{candidates, rounds_table}

pub candidates_hold : map rounds_table candidates ≡ map (λ x. x.rounds) candidates
unfolding is_rounding rounds_to whole total entry_places tabulate sum all
candidates_hold = refl
