use Rattle.paths.proofs.Paths.{level_back, last_ready, arrived}
use Rattle.paths.proofs.FreePlaces.flip_path.Goals as goal

pub loop-level-preserved : goal.loop-level-preserved
loop-level-preserved c = level_back c.loop-level.invariant c.loop-level-test.true c.pick-p.ensures c.flip.ensures c.pick-q.ensures c.flip-in-loop-level.ensures

pub flip-requires-2 : goal.flip-requires-2
flip-requires-2 c = last_ready c.loop-level.invariant c.loop-level-test.false

pub returns : goal.returns
returns c = arrived c.loop-level.invariant c.loop-level-test.false c.flip-2.ensures
