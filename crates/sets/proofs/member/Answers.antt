use mathlib.Core.Path.{refl}
use Rattle.sets.specs.Clauses.{on}
use Rattle.sets.proofs.member.Goals as goal

pub returns : goal.returns
unfolding on
returns c = refl
