use Prim.Native.Nat.{◌*◌}
use Rattle.limit_search.specs.Clauses.{block}
use Rattle.limit_search.proofs.Searching.{NoneTo}
use Rattle.limit_search.proofs.first_in.Given as goal

abbrev pub invariant-loop-i : goal.invariant-loop-i
invariant-loop-i l = NoneTo l.l l.x (block l.top l.left l.rows l.columns) (l.i * l.columns)
