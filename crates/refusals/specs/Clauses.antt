-- What the function that compares two refusals is held to. Assumes nothing.
use Rattle.std.specs.Prelude.{cond, leb}
use Rattle.refusals.specs.declared.Refusal.{Refusal}
use Rattle.refusals.specs.Numbers.{number_of}

-- of two refusals the one with the lower number
abbrev pub lower_of : Refusal → Refusal → Refusal
lower_of x y = cond (leb (number_of x) (number_of y)) x y
