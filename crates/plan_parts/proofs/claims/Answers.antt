use Rattle.plan_parts.proofs.Examples.{sizes_hold, cells_hold, arrays_hold}
use Rattle.plan_parts.proofs.claims.Goals as goal

pub returns-clause-sizes : goal.returns-clause-sizes
returns-clause-sizes c = sizes_hold

pub returns-clause-cells : goal.returns-clause-cells
returns-clause-cells c = cells_hold

pub returns-clause-arrays : goal.returns-clause-arrays
returns-clause-arrays c = arrays_hold
