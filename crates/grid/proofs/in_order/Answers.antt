use Rattle.table.proofs.Checks.{accepted}
use Rattle.grid.proofs.Grids.{order_entries}
use Rattle.grid.proofs.in_order.Goals as goal

pub returns : goal.returns
returns k r c d g t e = order_entries (accepted r c d g t e).table.shape
