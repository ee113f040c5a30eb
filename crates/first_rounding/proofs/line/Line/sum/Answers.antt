use Rattle.base.proofs.SumLoops.{summed_none}
use Rattle.first_rounding.proofs.QuotientLoops.{line_more, line_all}
use borrow.Author.Rules.{rules}
use Rattle.first_rounding.proofs.line.Line.sum.Goals as goal

pub loop-k-init : goal.loop-k-init
loop-k-init c = search (rules, summed_none)

pub loop-k-preserved : goal.loop-k-preserved
loop-k-preserved c = (search rules, line_more c.args.self.start c.args.self.step c.loop-k.invariant.1 c.requires c.place.ensures.place)

pub returns : goal.returns
returns c = line_all c.args.l.now c.args.self.start c.args.self.step c.loop-k.invariant.1 c.loop-k.invariant.0 c.loop-k-test.false
