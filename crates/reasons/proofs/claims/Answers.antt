-- `reasons::claims` states what proofs/Explaining.antt and proofs/Naming.antt prove.
use Rattle.reasons.proofs.Explaining.{every_explained}
use Rattle.reasons.proofs.Naming.{names_places}
use Rattle.reasons.proofs.claims.Goals as goal

pub returns-clause-explained : goal.returns-clause-explained
returns-clause-explained c = every_explained

pub returns-clause-named : goal.returns-clause-named
returns-clause-named c = names_places
