use Rattle.planning.proofs.LimitLoops.{LostTo}
use Rattle.planning.proofs.limits.lose.Given as goal

abbrev pub invariant-loop-k : goal.invariant-loop-k
invariant-loop-k l = LostTo l.x l.initial.e l.n l.e l.k
