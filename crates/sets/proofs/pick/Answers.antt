use Rattle.sets.proofs.SetLoops.{left_found, left_step, left_none}
use Rattle.sets.proofs.pick.Goals as goal

pub returns-then-member-eq1 : goal.returns-then-member-eq1
returns-then-member-eq1 c = left_found c.loop-p.invariant c.in-Some.ensures.steps.0 c.member.ensures c.if-member-eq1.true

pub loop-p-preserved : goal.loop-p-preserved
loop-p-preserved c = let s = c.in-Some.ensures.steps in left_step c.loop-p.invariant s.0 c.member.ensures c.if-member-eq1.false s.1

pub unreachable-requires : goal.unreachable-requires
unreachable-requires c = left_none c.loop-p.invariant c.in-None.ensures.steps
