use Rattle.drawing.proofs.Drawing.{left_none, left_more, left_found, array_there, left_over}
use borrow.Author.Rules.{rules}
use Rattle.drawing.proofs.array_of.Goals as goal

pub loop-k-init : goal.loop-k-init
loop-k-init c = search (rules, left_none)

pub returns-then-left-w : goal.returns-then-left-w
returns-then-left-w c = search (rules, left_found, array_there)

pub loop-k-preserved : goal.loop-k-preserved
loop-k-preserved c = search (rules, left_more)

pub returns : goal.returns
returns c = search (rules, left_over)
