use Rattle.plan.specs.Clauses.{Gathered}
use Rattle.plan.proofs.gather.gather.Given as goal

abbrev pub invariant-loop-left : goal.invariant-loop-left
invariant-loop-left l = Gathered l.t.sizes.rows l.t.sizes.columns l.t.sizes.denominator l.t.cells.now l.left.weight l.k l.left.entries l.weights l.counts

abbrev pub decreases-loop-left : goal.decreases-loop-left
decreases-loop-left l = l.left.weight
