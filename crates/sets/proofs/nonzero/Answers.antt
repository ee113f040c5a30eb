use Prim.Native.Nat.{◌+◌, ◌-◌}
use native.Mathlib.Omega.{arith}
use Rattle.sets.proofs.SetLoops.{upto_none, part_at, upto_with, upto_skip}
use Rattle.sets.proofs.nonzero.Goals as goal
use Rattle.sets.proofs.nonzero.Goals.{then-x-gt0, else-x-gt0}

pub loop-j-init : goal.loop-j-init
loop-j-init c = (omega arith, upto_none)

pub loop-j-preserved : goal.loop-j-preserved
loop-j-preserved c =
    let u = c.loop-j.invariant.1 in
    let here = part_at c.args.numbers.now c.args.from (c.args.from + 13 - c.args.from) c.loop-j.j (omega arith) in
    elim c.if-x-gt0.branch [
      | then-x-gt0 w ↦ (omega arith, rw w.r-is (upto_with u here w.if-x-gt0.true w.with-r.ensures))
      | else-x-gt0 w ↦ (omega arith, rw w.r-is (upto_skip u here w.if-x-gt0.false))
    ]
