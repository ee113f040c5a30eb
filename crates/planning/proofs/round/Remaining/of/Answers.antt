use native.Mathlib.Omega.{arith}
use Rattle.planning.proofs.GridRounds.{table_held}
use Rattle.planning.proofs.round.Remaining.of.Goals as goal

pub invariant_of-result : goal.invariant_of-result
invariant_of-result c =
    let t = c.args.t.now.accepted in
    record { table = table_held t c.entries.ensures; small = omega (arith, t.denominator) }
