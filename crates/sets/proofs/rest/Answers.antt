use Rattle.sets.proofs.Members.{rest_is}
use Rattle.sets.proofs.rest.Goals as goal

pub returns : goal.returns
returns c = rest_is c.args.x c.requires.some
