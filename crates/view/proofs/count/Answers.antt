use Rattle.view.specs.View.{count_answer}
use Rattle.view.proofs.Viewing.{no_array, no_cell, count_read}
use Rattle.view.proofs.count.Goals as goal

pub returns-in_default : goal.returns-in_default
unfolding count_answer
returns-in_default c = rw c.in_default.is

pub returns-then-not-has_array : goal.returns-then-not-has_array
returns-then-not-has_array c = rw c.in-Ok.is (no_array _ _ _ _ _ c.if-not-has_array.ensures)

pub returns-then-not-has_cell : goal.returns-then-not-has_cell
returns-then-not-has_cell c = rw c.in-Ok.is (no_cell _ _ _ c.if-not-has_array.ensures _ _ c.if-not-has_cell.ensures)

pub returns : goal.returns
returns c = rw (c.in-Ok.is, count_read _ _ _ c.if-not-has_array.ensures _ _ c.if-not-has_cell.ensures) c.find_count.ensures
