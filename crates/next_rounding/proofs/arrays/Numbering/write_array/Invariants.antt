use Rattle.next_rounding.proofs.Loops.{StoredTo}
use Rattle.next_rounding.proofs.arrays.Numbering.write_array.Given as goal

abbrev pub invariant-loop-i : goal.invariant-loop-i
invariant-loop-i l = StoredTo l.self.rows l.self.columns l.self.bounds.low l.x l.initial.counts l.counts l.i
