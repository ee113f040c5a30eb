use Rattle.pool.proofs.Pooling.{promised}
use Rattle.pool.proofs.Checking.{either_below_zero}
use Rattle.pool.proofs.Examples.{cases_hold}
use Rattle.pool.proofs.claims.Goals as goal

pub returns-clause-pools : goal.returns-clause-pools
returns-clause-pools c = promised

pub returns-clause-below_zero : goal.returns-clause-below_zero
returns-clause-below_zero c = either_below_zero

pub returns-clause-cases : goal.returns-clause-cases
returns-clause-cases c = cases_hold
