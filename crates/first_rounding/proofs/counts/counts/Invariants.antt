use Prim.Native.Nat.{◌≤◌}
use Rattle.base.proofs.Listing.{ListedTo}
use Rattle.first_rounding.specs.Clauses.{added_to}
use Rattle.first_rounding.proofs.counts.counts.Given as goal

abbrev pub invariant-loop-k : goal.invariant-loop-k
invariant-loop-k l = (l.k ≤ 169) × ListedTo 169 (added_to l.low l.bits) l.n l.k
