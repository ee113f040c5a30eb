use Rattle.opening.proofs.Examples.{cases_hold, parts_hold}
use Rattle.opening.proofs.claims.Goals as goal

pub returns-clause-opens : goal.returns-clause-opens
returns-clause-opens c = cases_hold

pub returns-clause-parts : goal.returns-clause-parts
returns-clause-parts c = parts_hold
