use borrow.Author.Rules.{rules}
use Rattle.paths.proofs.Paths.{flipped}
use Rattle.paths.proofs.flip.Goals as goal

pub returns : goal.returns
returns c = search (rules, flipped)
