use Rattle.form.proofs.Examples.{laid_hold, read_hold, stored_hold}
use Rattle.form.proofs.claims.Goals as goal

pub returns-clause-laid : goal.returns-clause-laid
returns-clause-laid c = laid_hold

pub returns-clause-read : goal.returns-clause-read
returns-clause-read c = read_hold

pub returns-clause-stored : goal.returns-clause-stored
returns-clause-stored c = stored_hold
