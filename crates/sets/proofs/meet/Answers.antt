use lib.Bits.{and_le_r}
use Rattle.sets.proofs.Members.{on_and}
use Rattle.sets.proofs.meet.Goals as goal

pub returns : goal.returns
returns c = record { small = and_le_r c.args.a c.args.b; is = on_and c.args.a c.args.b }
