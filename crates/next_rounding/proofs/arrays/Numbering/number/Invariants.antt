use Rattle.next_rounding.specs.Clauses.{digit_at}
use Rattle.next_rounding.proofs.Loops.{ValueTo}
use Rattle.next_rounding.proofs.arrays.Numbering.number.Given as goal

abbrev pub invariant-loop-p : goal.invariant-loop-p
invariant-loop-p l = ValueTo (digit_at l.self.rows l.self.columns l.self.bounds.low l.array) l.p-index l.x
