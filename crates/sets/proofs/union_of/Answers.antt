use Rattle.sets.proofs.SetLoops.{part_none, part_step, part_end}
use Rattle.sets.proofs.union_of.Goals as goal

pub loop-p-init : goal.loop-p-init
loop-p-init c = part_none (cc) c.requires

pub loop-p-preserved : goal.loop-p-preserved
loop-p-preserved c = let s = c.in-Some.ensures.steps in part_step c.loop-p.invariant s.0 c.join-r.ensures s.1

pub returns : goal.returns
returns c = part_end c.loop-p.invariant c.in-None.ensures.steps
