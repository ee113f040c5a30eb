use Rattle.std.proofs.Common.{rules}
use Rattle.view.specs.Find.{found_weight}
use Rattle.view.proofs.find.find_weight.Goals as goal

pub returns-then-not-has_entry : goal.returns-then-not-has_entry
unfolding found_weight
returns-then-not-has_entry c = search rules

pub returns : goal.returns
unfolding found_weight
returns c = search rules
