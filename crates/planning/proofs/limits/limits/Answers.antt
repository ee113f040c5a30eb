use Rattle.base.proofs.Listing.{listed_all}
use Rattle.planning.proofs.LimitLoops.{limit_ready}
use borrow.Author.Rules.{rules}
use Rattle.planning.proofs.limits.limits.Goals as goal

pub limit-requires : goal.limit-requires
limit-requires c = search (rules, limit_ready)

pub returns : goal.returns
returns c = search (rules, listed_all)
