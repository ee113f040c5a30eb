use Rattle.view.specs.View.{weight_answer}
use Rattle.view.proofs.Viewing.{no_weight, weight_read}
use Rattle.view.proofs.weight.Goals as goal

pub returns-in_default : goal.returns-in_default
unfolding weight_answer
returns-in_default c = rw c.in_default.is

pub returns-then-not-has_array : goal.returns-then-not-has_array
returns-then-not-has_array c = rw c.in-Ok.is (no_weight _ _ _ c.if-not-has_array.ensures)

pub returns : goal.returns
returns c = rw (c.in-Ok.is, weight_read _ _ _ c.if-not-has_array.ensures) c.find_weight.ensures
