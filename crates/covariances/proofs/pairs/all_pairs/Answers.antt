use Rattle.covariances.proofs.Products.{rows_none, rows_at, rows_more, rows_all}
use borrow.Author.Rules.{rules}
use Rattle.covariances.proofs.pairs.all_pairs.Goals as goal

pub loop-a-init : goal.loop-a-init
loop-a-init c = search (rules, rows_none)

pub pairs_of-e-requires : goal.pairs_of-e-requires
pairs_of-e-requires c = search (rules, rows_at)

pub loop-a-preserved : goal.loop-a-preserved
loop-a-preserved c = search (rules, rows_more)

pub returns : goal.returns
returns c = search (rules, rows_all)
