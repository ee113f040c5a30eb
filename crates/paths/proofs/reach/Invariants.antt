use Prim.Native.Nat.{◌≤◌}
use Rattle.paths.proofs.Searches.{Progress}
use Rattle.paths.proofs.reach.Given as goal

abbrev pub invariant-loop-level : goal.invariant-loop-level
invariant-loop-level l = (l.level ≤ 13) × Progress l.up l.down l.ends l.start l.reached.rows l.reached.cols l.level l.front l.rows_left l.cols_left
