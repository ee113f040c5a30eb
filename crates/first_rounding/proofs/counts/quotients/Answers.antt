use Rattle.first_rounding.proofs.QuotientLoops.{parts_all}
use borrow.Author.Rules.{rules}
use Rattle.first_rounding.proofs.counts.quotients.Goals as goal

pub returns : goal.returns
returns c = search (rules, parts_all)
