-- `plan::claims` states what proofs/Planning.antt and proofs/Examples.antt prove.
use Rattle.table.proofs.Checks.{passed_all}
use Rattle.plan.proofs.Planning.{promised}
use Rattle.plan.proofs.Examples.{calls_hold}
use Rattle.plan.proofs.claims.Goals as goal

pub returns-clause-promises : goal.returns-clause-promises
returns-clause-promises k r c d g h = promised (passed_all r c d g h)

pub returns-clause-calls : goal.returns-clause-calls
returns-clause-calls c = calls_hold
