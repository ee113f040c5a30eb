use Rattle.table.proofs.Divisions.{divided}
use Rattle.table.proofs.whole.divide.Goals as goal

pub returns : goal.returns
returns c = rw c.from.ensures (divided c.requires c.divide-d.ensures)
