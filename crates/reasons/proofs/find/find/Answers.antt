use mathlib.Core.Path.{◌∙◌}
use Rattle.reasons.proofs.Finding.{passed_start, own_round, passed_step, rounds_over, none_asked}
use Rattle.reasons.proofs.find.find.Goals as goal

pub loop-k-init : goal.loop-k-init
loop-k-init c =
    let made = c.of-left.ensures in
    (made.rows, made.columns, rw made.weight (passed_start _ c.args.t.now.accepted made.entries))

pub returns-then-k-array : goal.returns-then-k-array
returns-then-k-array c =
    let o = c.loop-k.invariant in
    own_round o.2 c.if-left-eq0.false c.if-k-array.true (rw (o.0, o.1) at c.reason_of.ensures)

pub loop-k-preserved : goal.loop-k-preserved
loop-k-preserved c =
    let o = c.loop-k.invariant in
    let u = c.one_round.ensures in
    (u.rows ∙ o.0, u.columns ∙ o.1, passed_step o.2 c.if-left-eq0.false u.round u.weight c.if-k-array.false c.loop-k-test.true)

pub returns : goal.returns
returns c = none_asked c.loop-k.invariant.2 c.loop-k-test.false

pub returns-then-left-eq0 : goal.returns-then-left-eq0
returns-then-left-eq0 c = rounds_over c.loop-k.invariant.2 c.if-left-eq0.true c.loop-k-test.true
