use Rattle.walk.proofs.Examples.{firsts_hold, steps_hold}
use Rattle.walk.proofs.claims.Goals as goal

pub returns-clause-firsts : goal.returns-clause-firsts
returns-clause-firsts c = firsts_hold

pub returns-clause-steps : goal.returns-clause-steps
returns-clause-steps c = steps_hold
