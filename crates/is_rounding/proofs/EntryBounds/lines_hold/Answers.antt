use native.Mathlib.Omega.{arith}
use Rattle.is_rounding.proofs.EntryLines.{outside_none, outside_more, outside_all}
use borrow.Author.Rules.{rules}
use Rattle.is_rounding.proofs.EntryBounds.lines_hold.Goals as goal

pub loop-l-init : goal.loop-l-init
loop-l-init c = search (rules, outside_none)

pub loop-l-preserved : goal.loop-l-preserved
loop-l-preserved c =
    let loop = c.loop-l.invariant in
    (omega arith, loop.1, outside_more loop.2 c.count_sum-x.ensures c.between.ensures c.from-failed.ensures)

pub returns : goal.returns
returns c = search (rules, outside_all)
