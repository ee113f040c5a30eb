use Rattle.table.proofs.Checks.{below_zero}
use Rattle.table.proofs.Examples.{checks_hold, entries_hold, rounded_hold, largest_hold}
use Rattle.table.proofs.claims.Goals as goal

pub returns-clause-below_zero : goal.returns-clause-below_zero
returns-clause-below_zero c = below_zero

pub returns-clause-checks : goal.returns-clause-checks
returns-clause-checks c = checks_hold

pub returns-clause-entries : goal.returns-clause-entries
returns-clause-entries c = entries_hold

pub returns-clause-rounded : goal.returns-clause-rounded
returns-clause-rounded c = rounded_hold

pub returns-clause-largest : goal.returns-clause-largest
returns-clause-largest c = largest_hold
