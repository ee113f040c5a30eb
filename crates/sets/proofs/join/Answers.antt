use Rattle.sets.proofs.Members.{on_or}
use Rattle.sets.proofs.join.Goals as goal

pub returns : goal.returns
returns c = record { is = on_or c.args.a c.args.b }
