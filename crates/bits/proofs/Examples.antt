-- The tables of specs/Examples.antt hold, by computation. Assumes nothing.
use mathlib.Core.Path.{◌≡◌, refl}
use mathlib.Core.List.{map}
use Rattle.base.specs.Lists.{tabulate, all}
use Rattle.bits.specs.Bits.{bit_of, spare_clear}
use Rattle.bits.specs.Examples.{two_bytes, numbers, set, spares}

pub bits_hold : map (bit_of two_bytes) numbers ≡ set
unfolding bit_of
bits_hold = refl

pub spares_hold : map (λ x. spare_clear x.count x.bits) spares ≡ map (λ x. x.clear) spares
unfolding bit_of tabulate all
spares_hold = refl
