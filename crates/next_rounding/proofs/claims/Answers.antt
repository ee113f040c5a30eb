use Rattle.table.proofs.Checks.{passed_all}
use Rattle.next_rounding.proofs.Following.{next_follows}
use Rattle.next_rounding.proofs.claims.Goals as goal

pub returns : goal.returns
returns c = λ r c d g n h. next_follows (passed_all r c d g h).shape d n
