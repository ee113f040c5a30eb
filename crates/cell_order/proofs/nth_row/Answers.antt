use Rattle.cell_order.proofs.Ranks.{row_is}
use Rattle.cell_order.proofs.nth_row.Goals as goal

pub returns : goal.returns
returns c = row_is _ _ _
