use Rattle.bits.proofs.Examples.{bits_hold, spares_hold}
use Rattle.bits.proofs.claims.Goals as goal

pub returns-clause-bits : goal.returns-clause-bits
returns-clause-bits c = bits_hold

pub returns-clause-spares : goal.returns-clause-spares
returns-clause-spares c = spares_hold
