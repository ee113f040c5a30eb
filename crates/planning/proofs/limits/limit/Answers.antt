use Rattle.planning.proofs.LimitLoops.{limit_down, limit_up}
use borrow.Author.Rules.{rules}
use Rattle.planning.proofs.limits.limit.Goals as goal

pub returns-then-n-q : goal.returns-then-n-q
returns-then-n-q c = search (rules, limit_down)

pub returns-else-n-q : goal.returns-else-n-q
returns-else-n-q c = search (rules, limit_up)
