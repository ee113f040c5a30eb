-- `planning::claims` states what proofs/Examples.antt proves.
use Rattle.planning.proofs.Examples.{limits_hold}
use Rattle.planning.proofs.claims.Goals as goal

pub returns : goal.returns
returns c = record { limits = limits_hold }
