-- `multiples::claims` states what the laws of this folder prove.
use Rattle.multiples.proofs.Multiples.{is_least}
use Rattle.multiples.proofs.Examples.{cases_hold}
use Rattle.multiples.proofs.claims.Goals as goal

pub returns-clause-least : goal.returns-clause-least
returns-clause-least c = is_least

pub returns-clause-cases : goal.returns-clause-cases
returns-clause-cases c = cases_hold
