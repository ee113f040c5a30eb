use Rattle.bits.proofs.Bits.{Set}
use Rattle.bits.proofs.bits_set.Given as goal

abbrev pub invariant-loop-j : goal.invariant-loop-j
invariant-loop-j l = Set l.bits l.from l.j l.sum
