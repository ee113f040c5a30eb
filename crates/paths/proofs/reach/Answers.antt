use borrow.Author.Rules.{rules}
use Rattle.paths.proofs.Searches.{one_le, progress_start, progress_found, progress_shut, progress_full, progress_step}
use Rattle.paths.proofs.reach.Goals as goal

pub minus-rows_left-requires : goal.minus-rows_left-requires
minus-rows_left-requires c = search (rules, one_le)

pub loop-level-init : goal.loop-level-init
loop-level-init c = search (rules, progress_start)

pub returns-then-hits-ne0 : goal.returns-then-hits-ne0
returns-then-hits-ne0 c = progress_found c.loop-level.invariant.1 c.union_of.ensures c.meet-next.ensures c.loop-level-test.true c.meet-hits.ensures c.some.ensures

pub returns-then-next-eq0 : goal.returns-then-next-eq0
returns-then-next-eq0 c = search (rules, progress_shut)

pub loop-level-preserved : goal.loop-level-preserved
loop-level-preserved c = search (rules, progress_step)

pub returns : goal.returns
returns c = search (rules, progress_full)
