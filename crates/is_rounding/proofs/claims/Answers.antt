-- `is_rounding::claims` states what proofs/Examples.antt proves.
use Rattle.is_rounding.proofs.Examples.{candidates_hold}
use Rattle.is_rounding.proofs.claims.Goals as goal

pub returns : goal.returns
returns c = record { candidates = candidates_hold }
