use Rattle.printing.proofs.Examples.{digits_are}
use Rattle.printing.proofs.claims.Goals as goal

pub returns : goal.returns
returns c = record { digits = digits_are }
