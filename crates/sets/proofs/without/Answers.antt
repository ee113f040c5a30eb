use Rattle.sets.proofs.Members.{without_is}
use Rattle.sets.proofs.without.Goals as goal

pub returns : goal.returns
returns c = rw c.single.ensures.value (without_is c.args.x c.args.i c.requires.is)
