use Rattle.next_rounding.specs.Clauses.{passes}
use Rattle.next_rounding.proofs.Loops.{Passed}
use Rattle.next_rounding.proofs.arrays.Numbering.first_from.Given as goal

abbrev pub invariant-loop-x : goal.invariant-loop-x
invariant-loop-x l = Passed (passes l.self.rows l.self.columns l.self.bounds.low l.self.bounds.high) l.from l.x
