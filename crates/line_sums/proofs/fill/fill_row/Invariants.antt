use Prim.Native.Nat.{◌*◌, ◌≤◌}
use Rattle.sets.specs.Clauses.{ind}
use Rattle.line_sums.specs.Clauses.{FilledBy}
use Rattle.line_sums.proofs.fill.fill_row.Given as goal

abbrev pub invariant-loop-k : goal.invariant-loop-k
invariant-loop-k l = (l._k ≤ l.more) × FilledBy l.initial.free l.initial.lack.left l.free l.lack.left (λ p. l._k * ind p l.row)
