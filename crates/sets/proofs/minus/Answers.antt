use Rattle.sets.proofs.Members.{minus_is}
use Rattle.sets.proofs.minus.Goals as goal

pub returns : goal.returns
returns c = minus_is c.args.a c.args.b c.requires.whole_small c.requires.part_small c.requires.is
