use Rattle.refusals.proofs.Dues.{first_due, none_applies_lem, none_due}
use Rattle.refusals.proofs.Numbering.{at_place}
use Rattle.refusals.proofs.claims.Goals as goal

pub returns-clause-first : goal.returns-clause-first
returns-clause-first c = first_due

pub returns-clause-none : goal.returns-clause-none
returns-clause-none c = λ l. (none_applies_lem l, none_due l)

pub returns-clause-places : goal.returns-clause-places
returns-clause-places c = at_place
