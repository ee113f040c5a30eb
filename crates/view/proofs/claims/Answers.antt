use Rattle.view.proofs.Viewing.{finds_all}
use Rattle.view.proofs.Examples.{summaries_hold, weights_hold, counts_hold}
use Rattle.view.proofs.claims.Goals as goal

pub returns-clause-readers : goal.returns-clause-readers
returns-clause-readers c = finds_all

pub returns-clause-summaries : goal.returns-clause-summaries
returns-clause-summaries c = summaries_hold

pub returns-clause-weights : goal.returns-clause-weights
returns-clause-weights c = weights_hold

pub returns-clause-counts : goal.returns-clause-counts
returns-clause-counts c = counts_hold
