use Rattle.sets.proofs.Members.{some_is}
use Rattle.sets.proofs.some.Goals as goal

pub returns : goal.returns
returns c = some_is c.args.x c.requires.some c.requires.small
