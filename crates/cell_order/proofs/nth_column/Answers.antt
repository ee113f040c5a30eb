use Rattle.cell_order.proofs.Ranks.{column_is}
use Rattle.cell_order.proofs.nth_column.Goals as goal

pub returns : goal.returns
returns c = column_is _ _ _
