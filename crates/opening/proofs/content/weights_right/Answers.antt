use Rattle.opening.proofs.ContentTests.{weighed_none, no_weight, weights_fit, weighed_more, weighed_all}
use borrow.Author.Rules.{rules}
use Rattle.opening.proofs.content.weights_right.Goals as goal

pub loop-k-init : goal.loop-k-init
loop-k-init c = search (rules, weighed_none)

pub returns-then-w-lt1 : goal.returns-then-w-lt1
returns-then-w-lt1 c = search (rules, no_weight)

pub overflow_add-sum : goal.overflow_add-sum
overflow_add-sum c = search (rules, weights_fit)

pub loop-k-preserved : goal.loop-k-preserved
loop-k-preserved c = search (rules, weighed_more)

pub returns : goal.returns
returns c = search (rules, weighed_all)
