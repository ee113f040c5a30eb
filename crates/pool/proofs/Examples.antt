-- The table of specs/Examples.antt holds, by computation. Assumes nothing.
use mathlib.Core.Path.{◌≡◌, refl}
use mathlib.Core.List.{map, zip_with}
use Rattle.base.specs.Lists.{all}
use Rattle.base.specs.Search.{first_from}
use Rattle.refusals.specs.Due.{due, answer_of, after}
use Rattle.multiples.specs.Multiple.{least_multiple}
use Rattle.pool.specs.Pool.{pooled_cells, pool_refusal}
use Rattle.pool.specs.Examples.{cases, pooled, said}

-- the multiples of the table, each searched for once
found :
    (least_multiple 1 1 ≡ 1)
    × (least_multiple 7 1 ≡ 7)
    × (least_multiple 10 4 ≡ 20)
    × (least_multiple 7 5 ≡ 35)
    × (least_multiple 10 10 ≡ 10)
    × (least_multiple 3 12 ≡ 12)
    × (least_multiple 12 3 ≡ 12)
    × (least_multiple 255 257 ≡ 65535)
    × (least_multiple 2 32769 ≡ 65538)
    × (least_multiple 65535 1 ≡ 65535)
unfolding least_multiple first_from
found = (refl, refl, refl, refl, refl, refl, refl, refl, refl, refl)

pub cases_hold : map pooled cases ≡ map said cases
unfolding pool_refusal due answer_of after all zip_with pooled_cells
cases_hold = simp (found.0, found.1, found.2, found.3, found.4, found.5, found.6, found.7, found.8, found.9)
