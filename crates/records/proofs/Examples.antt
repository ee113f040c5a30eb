-- The table of specs/Examples.antt holds, by computation. Assumes nothing.
use mathlib.Core.Path.{◌≡◌, refl}
use mathlib.Core.List.{map}
use Rattle.base.specs.Lists.{tabulate, sum_to, all}
use Rattle.weighted_arrays.specs.Plan.{array_for}
use Rattle.bits.specs.Bits.{bit_of}
use Rattle.records.specs.Record.{within, fits}
use Rattle.records.specs.Examples.{rows}

pub rows_hold : map (λ r. fits r.plan r.given) rows ≡ map (λ r. r.fits) rows
unfolding fits within bit_of sum_to array_for tabulate all
rows_hold = refl
