use Rattle.next_rounding.proofs.Loops.{PlacesTo}
use Rattle.next_rounding.proofs.arrays.places.Given as goal

abbrev pub invariant-loop-i : goal.invariant-loop-i
invariant-loop-i l = PlacesTo l.rows l.columns l.places l.i
