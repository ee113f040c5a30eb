use Rattle.base.proofs.Storing.{stored_none}
use Rattle.corrections.proofs.Counting.{counts_more}
use borrow.Author.Rules.{rules}
use Rattle.corrections.proofs.counts.counts.Goals as goal

pub loop-k-init : goal.loop-k-init
loop-k-init c = search (rules, stored_none)

pub loop-k-preserved : goal.loop-k-preserved
loop-k-preserved c = counts_more c.requires c.loop-k-test.true (search rules) c.loop-k.invariant c.count.ensures
