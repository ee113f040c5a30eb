use Rattle.drawing.proofs.Examples.{draws_hold}
use Rattle.drawing.proofs.claims.Goals as goal

pub returns : goal.returns
returns c = record { draws = draws_hold }
