use native.Mathlib.Omega.{arith}
use borrow.Author.Rules.{rules}
use Rattle.campaign_start.proofs.Starting.{bytes_are, part_length, zeroed}
use Rattle.campaign_draw.proofs.Calling.{round_going, round_closed}
use Rattle.campaign_draw.proofs.round.close_round.Goals as goal

pub returns-then-record-denominator : goal.returns-then-record-denominator
returns-then-record-denominator c = round_going _ _ _ c.if-record-denominator.true

pub slice_bounds-fill-end : goal.slice_bounds-fill-end
slice_bounds-fill-end c = omega (arith, c.requires.room)

pub slice_bounds-fill-end-2 : goal.slice_bounds-fill-end-2
slice_bounds-fill-end-2 c = search (rules, part_length)

pub returns : goal.returns
returns c =
    round_closed _ _ _ c.if-record-denominator.false
    (zeroed (omega (arith, bytes_are c.args.denominator)) c.args.bits.now c.requires.room (c.fill.ensures.after (λ y e. e)))
