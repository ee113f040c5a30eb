-- `rounding::claims` states what proofs/Examples.antt proves.
use Rattle.rounding.proofs.Examples.{rounds_hold}
use Rattle.rounding.proofs.claims.Goals as goal

pub returns : goal.returns
returns c = record { calls = rounds_hold }
