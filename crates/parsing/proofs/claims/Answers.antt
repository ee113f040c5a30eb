use Rattle.parsing.proofs.Examples.{parsed}
use Rattle.parsing.proofs.claims.Goals as goal

pub returns : goal.returns
returns c = parsed
