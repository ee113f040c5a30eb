use mathlib.Core.Path.{◌≡◌}
use native.Mathlib.Omega.{arith}
use borrow.Author.Rules.{rules}
use Rattle.planning.proofs.Reaching.{less_left}
use Rattle.plan.proofs.Gathering.{gathered_start, weights_scaled, weights_room, start_fits, array_ready, array_counted, gathered_step}
use Rattle.plan.proofs.gather.gather.Goals as goal

pub loop-left-init : goal.loop-left-init
loop-left-init c =
    let made = c.of-left.ensures in
    rw made.weight (gathered_start _ _ _ c.args.t.now.accepted c.requires.weights_room c.requires.counts_room made.entries)

pub offset_bounds-weights-k : goal.offset_bounds-weights-k
offset_bounds-weights-k c = weights_scaled c.loop-left.invariant c.loop-left-test.true

pub bounds-weights-k : goal.bounds-weights-k
bounds-weights-k c = weights_room c.loop-left.invariant c.loop-left-test.true

pub overflow_mul-k : goal.overflow_mul-k
overflow_mul-k c = start_fits c.loop-left.invariant c.loop-left-test.true

pub write_cells-requires : goal.write_cells-requires
write_cells-requires c = array_ready c.loop-left.invariant c.loop-left-test.true c.one_round-x.ensures.round

pub overflow_add-k : goal.overflow_add-k
overflow_add-k c = search (rules, array_counted)

pub loop-left-smaller : goal.loop-left-smaller
loop-left-smaller c =
    let u = c.one_round-x.ensures in
    less_left c.loop-left.invariant.reached c.loop-left-test.true u.round u.weight

pub loop-left-preserved : goal.loop-left-preserved
loop-left-preserved c =
    let u = c.one_round-x.ensures in
    gathered_step c.loop-left.invariant c.loop-left-test.true u.round c.write_cells.ensures u.weight

pub returns : goal.returns
returns c =
    let l = c.loop-left in
    let z : l.left.weight ≡ 0 = omega arith in
    record { e = l.left.entries; rounds = rw z at l.invariant }
