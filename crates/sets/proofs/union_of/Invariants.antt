use Rattle.sets.proofs.SetLoops.{Part}
use Rattle.sets.proofs.union_of.Given as goal

abbrev pub invariant-loop-p : goal.invariant-loop-p
invariant-loop-p l = Part l.sets l.x l.p-iterator.left l.r
