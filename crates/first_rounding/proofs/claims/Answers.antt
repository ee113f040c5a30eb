-- `first_rounding::claims` states what proofs/Existence.antt proves.
use Rattle.first_rounding.proofs.Existence.{accepted_exists}
use Rattle.first_rounding.proofs.claims.Goals as goal

pub returns : goal.returns
returns c = accepted_exists
