use Rattle.std.proofs.Common.{rules}
use Rattle.base.proofs.SumLoops.{summed_none}
use Rattle.bits.proofs.Bits.{set_more, set_fits_more}
use Rattle.bits.proofs.bits_set.Goals as goal

pub loop-j-init : goal.loop-j-init
loop-j-init c = search (rules, summed_none)

pub overflow_add-sum : goal.overflow_add-sum
overflow_add-sum c = search (rules, set_fits_more)

pub loop-j-preserved : goal.loop-j-preserved
loop-j-preserved c = search (rules, set_more)
