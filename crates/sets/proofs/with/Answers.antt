use Rattle.sets.proofs.Members.{with_is}
use Rattle.sets.proofs.with.Goals as goal

pub returns : goal.returns
returns c = rw c.single.ensures.value (with_is c.args.x c.args.i c.requires.is)
