use Rattle.base.specs.Clauses.{Filled}
use Rattle.campaign_draw.proofs.Calling.{sum_at}
use Rattle.campaign_draw.proofs.add_counts.Given as goal

abbrev pub invariant-loop-i : goal.invariant-loop-i
invariant-loop-i l = Filled (sum_at l.counts l.initial.tally) 0 l.initial.tally l.tally l.i
