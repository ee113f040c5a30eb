use Prim.Native.Nat.{◌≤◌}
use Rattle.line_sums.specs.Fixing.{CellsFixed}
use Rattle.line_sums.proofs.places.AllPlaces.fix_all.Given as goal

abbrev pub invariant-loop-n : goal.invariant-loop-n
invariant-loop-n l = (l.n ≤ 144) × CellsFixed l.initial.self l.self l.n
