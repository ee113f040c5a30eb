use lib.IntN.{pos}
use lib.ListN.{get_or}
use Rattle.base.proofs.Storing.{Stored}
use Rattle.corrections.specs.Clauses.{count_of}
use Rattle.corrections.proofs.counts.counts.Given as goal

abbrev pub invariant-loop-k : goal.invariant-loop-k
invariant-loop-k l = Stored (λ i. count_of l.denominator (get_or l.cells i (pos 0)) (get_or l.firsts i 0)) l.initial.out l.out l.k
