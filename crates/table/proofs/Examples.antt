-- The tables of specs/Examples.antt hold, by computation. Assumes nothing.
use mathlib.Core.Path.{◌≡◌, refl}
use mathlib.Core.List.{[], ◌∷◌, map}
use Rattle.base.specs.Lists.{tabulate, sum, all}
use Rattle.refusals.specs.Due.{due}
use Rattle.table.specs.Table.{entry_places, total, entries}
use Rattle.table.specs.Whole.{whole, gap, rounds_to}
use Rattle.table.specs.Clauses.{check_of_cells, check_of}
use Rattle.table.specs.Examples.{cases, checked, rounded, rounded_of, full, full_entries}

pub checks_hold : map checked cases ≡ map (λ x. x.number) cases
unfolding check_of check_of_cells due all
checks_hold = refl

pub entries_hold : entries 2 3 (1 ∷ 2 ∷ 3 ∷ 40 ∷ 50 ∷ 60 ∷ []) ≡ 1 ∷ 2 ∷ 3 ∷ 40 ∷ 50 ∷ 60 ∷ 6 ∷ 150 ∷ 41 ∷ 52 ∷ 63 ∷ 156 ∷ []
unfolding entries entry_places total tabulate sum
entries_hold = refl

pub rounded_hold : map (λ x. rounded_of x.entry) rounded ≡ rounded
unfolding rounds_to whole gap
rounded_hold = refl

pub largest_hold : entries 12 12 full ≡ full_entries
unfolding entries entry_places total tabulate sum
largest_hold = refl
