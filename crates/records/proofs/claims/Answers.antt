use Rattle.records.proofs.Examples.{rows_hold}
use Rattle.records.proofs.claims.Goals as goal

pub returns-clause-rows : goal.returns-clause-rows
returns-clause-rows c = rows_hold
