use Rattle.base.proofs.Storing.{stored_none}
use Rattle.corrections.proofs.Counting.{rests_more, rests_all}
use borrow.Author.Rules.{rules}
use Rattle.corrections.proofs.counts.remainders.Goals as goal

pub loop-k-init : goal.loop-k-init
loop-k-init c = search (rules, stored_none)

pub loop-k-preserved : goal.loop-k-preserved
loop-k-preserved c = rests_more c.requires (search rules) c.from.ensures c.divide-d.ensures c.loop-k.invariant c.loop-k-test.true

pub returns : goal.returns
returns c = search (rules, rests_all)
