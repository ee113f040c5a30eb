use Rattle.writing.specs.Clauses.{numbers}
use Rattle.base.proofs.Puts.{Put}
use Rattle.writing.proofs.counts_at.Given as goal

abbrev pub invariant-loop-i : goal.invariant-loop-i
invariant-loop-i l = Put l.initial.plan l.at (numbers 2 l.i l.counts) l.plan
