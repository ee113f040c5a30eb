use lib.IntN.{pos}
use lib.ListN.{get_or}
use Rattle.base.proofs.Storing.{Stored}
use Rattle.division.specs.Division.{rest}
use Rattle.corrections.proofs.counts.remainders.Given as goal

abbrev pub invariant-loop-k : goal.invariant-loop-k
invariant-loop-k l = Stored (λ i. rest l.denominator (get_or l.cells i (pos 0))) l.initial.out l.out l.k
