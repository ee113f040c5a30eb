use Rattle.base.proofs.Listing.{ListedTo}
use Rattle.planning.specs.Clauses.{limit_at}
use Rattle.planning.proofs.limits.limits.Given as goal

abbrev pub invariant-loop-k : goal.invariant-loop-k
invariant-loop-k l = ListedTo 169 (limit_at l.w l.e l.n) l.l l.k
