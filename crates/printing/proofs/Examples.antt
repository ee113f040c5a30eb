-- The examples hold, by computing both sides. Assumes nothing.
use mathlib.Core.Path.{◌≡◌, refl}
use mathlib.Core.List.{map}
use Rattle.printing.specs.Lines.{digits, decimal}
use Rattle.printing.specs.Examples.{numbers, numerals}

pub digits_are : map decimal numbers ≡ numerals
unfolding decimal digits
digits_are = refl
