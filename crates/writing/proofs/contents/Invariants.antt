use Rattle.base.specs.Lists.{join_to}
use Rattle.base.proofs.Puts.{Put}
use Rattle.writing.specs.Clauses.{buffered_entry}
use Rattle.writing.proofs.contents.Given as goal

abbrev pub invariant-loop-i : goal.invariant-loop-i
invariant-loop-i l = Put l.initial.plan 8 (join_to l.i (buffered_entry l.s l.weights)) l.plan
