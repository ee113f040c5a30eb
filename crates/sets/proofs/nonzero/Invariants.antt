use Prim.Native.Nat.{◌≤◌}
use Rattle.sets.proofs.SetLoops.{Upto}
use Rattle.sets.proofs.nonzero.Given as goal

abbrev pub invariant-loop-j : goal.invariant-loop-j
invariant-loop-j l = (l.j ≤ 13) × Upto l.numbers l.from l.j l.r
