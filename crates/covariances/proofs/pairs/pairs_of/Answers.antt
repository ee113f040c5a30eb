use Rattle.covariances.proofs.Products.{row_ready, row_extremes_ready, row_is}
use borrow.Author.Rules.{rules}
use Rattle.covariances.proofs.pairs.pairs_of.Goals as goal

pub row_sums-requires : goal.row_sums-requires
row_sums-requires c = search (rules, row_ready)

pub row_extremes-requires : goal.row_extremes-requires
row_extremes-requires c = search (rules, row_extremes_ready)

pub returns : goal.returns
returns c = search (rules, row_is)
