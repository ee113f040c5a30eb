-- Which refusal two parts of an input meet that are tested alike (specification, "Refusals"). Assumes nothing.
use Rattle.std.specs.Prelude.{◌||◌}
use mathlib.Core.List.{List, zip_with}
use Rattle.refusals.specs.Due.{Test, refuse}

-- the lists of the two parts as one: a refusal applies if it applies to either
abbrev pub either : List Test → List Test → List Test
either l m = zip_with (λ t u. refuse t.refusal (t.applies || u.applies)) l m
