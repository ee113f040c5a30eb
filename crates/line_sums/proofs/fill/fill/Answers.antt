use native.Mathlib.Omega.{arith}
use Rattle.line_sums.proofs.Fills.{filled_none, filled_then, filled_as, rows_none, rows_next, rows_all, room_next}
use Rattle.line_sums.proofs.fill.fill.Goals as goal

pub loop-row-init : goal.loop-row-init
loop-row-init c = filled_none c.requires.lack_len (rows_none c.args.more.now (omega arith))

pub fill_row-requires : goal.fill_row-requires
fill_row-requires c =
    let a = c.loop-row.invariant in
    record { lack_len = a.lack_len; inside = omega arith; room = room_next c.args.more.now c.loop-row-test.true c.requires.feasible a }

pub loop-row-preserved : goal.loop-row-preserved
loop-row-preserved c = filled_then c.loop-row.invariant c.fill_row.ensures (rows_next c.args.more.now c.loop-row-test.true)

pub returns : goal.returns
returns c = filled_as c.loop-row.invariant (rows_all c.args.more.now c.loop-row-test.false)
