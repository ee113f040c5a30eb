use Rattle.corrections.proofs.Rounded.{exists}
use Rattle.corrections.proofs.Natural.{reply_same}
use Rattle.corrections.proofs.Examples.{rounded_hold, candidates_hold, calls_hold}
use Rattle.corrections.proofs.claims.Goals as goal

pub returns-clause-exists : goal.returns-clause-exists
returns-clause-exists c = exists

pub returns-clause-same : goal.returns-clause-same
returns-clause-same c = reply_same

pub returns-clause-rounded : goal.returns-clause-rounded
returns-clause-rounded c = rounded_hold

pub returns-clause-candidates : goal.returns-clause-candidates
returns-clause-candidates c = candidates_hold

pub returns-clause-calls : goal.returns-clause-calls
returns-clause-calls c = calls_hold
