use mathlib.Core.Path.{refl}
use Rattle.cell_order.specs.Order.{nth_row, nth_column, rank}
use Rattle.cell_order.proofs.claims.Goals as goal

pub returns-clause-rows : goal.returns-clause-rows
unfolding nth_row nth_column rank
returns-clause-rows c = refl

pub returns-clause-columns : goal.returns-clause-columns
unfolding nth_row nth_column rank
returns-clause-columns c = refl

pub returns-clause-first_row : goal.returns-clause-first_row
unfolding nth_row nth_column rank
returns-clause-first_row c = refl

pub returns-clause-second_row : goal.returns-clause-second_row
unfolding nth_row nth_column rank
returns-clause-second_row c = refl
