use mathlib.Core.Path.{sym, ◌∙◌}
use Rattle.base.proofs.SumLoops.{summed_none, summed_more, summed_all}
use Rattle.table.proofs.Totals.{total_sum}
use Rattle.is_rounding.proofs.count_sum.Goals as goal

pub loop-k-init : goal.loop-k-init
loop-k-init c = summed_none _ _

pub loop-k-preserved : goal.loop-k-preserved
loop-k-preserved c = summed_more c.loop-k.invariant _ c.from-s.ensures (rw c.from-s.ensures (c.type_inv.counts _).fits)

pub returns : goal.returns
returns c = (summed_all c.loop-k.invariant c.loop-k.auto.k-end c.loop-k-test.false).0 ∙ sym (total_sum c.args.counts.now c.args.number _)
