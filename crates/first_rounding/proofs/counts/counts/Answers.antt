use Rattle.first_rounding.proofs.CountLoops.{counts_all}
use Rattle.first_rounding.proofs.counts.counts.Goals as goal

pub returns : goal.returns
returns c = counts_all c.args.low.now c.args.high.now c.args.bits.now c.loop-k.invariant.1 c.loop-k-test.false c.totals.ensures c.totals-2.ensures
