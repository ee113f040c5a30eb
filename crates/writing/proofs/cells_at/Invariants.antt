use Rattle.writing.specs.Clauses.{numbers}
use Rattle.base.proofs.Puts.{Put}
use Rattle.writing.proofs.cells_at.Given as goal

abbrev pub invariant-loop-i : goal.invariant-loop-i
invariant-loop-i l = Put l.initial.plan l.at (numbers 4 l.i l.cells) l.plan
