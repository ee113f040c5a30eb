use Rattle.std.proofs.Common.{rules}
use Rattle.form.specs.Form.{head_right}
use Rattle.form.proofs.layout.head_right.Goals as goal

pub returns-then-start_right : goal.returns-then-start_right
unfolding head_right
returns-then-start_right c = search rules

pub returns-else-start_right : goal.returns-else-start_right
unfolding head_right
returns-else-start_right c = search rules
