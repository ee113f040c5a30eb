use Rattle.sets.proofs.SetLoops.{Left}
use Rattle.sets.proofs.pick.Given as goal

abbrev pub invariant-loop-p : goal.invariant-loop-p
invariant-loop-p l = Left l.sets l.x l.q l.p-iterator.left
