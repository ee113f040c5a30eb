use Rattle.std.proofs.lemmas.Result.{err_from_is_err_and}
use borrow.Author.Rules.{rules}
use Rattle.opening.proofs.Opening.{sizes_product}
use Rattle.campaign_start.proofs.Starting.{start_fitted, bit_there}
use Rattle.campaign_draw.proofs.Calling.{draw_refused, short_counts, number_above, not_fitting, all_done, is_taken, is_accepted}
use Rattle.campaign_draw.proofs.draw_opened.Goals as goal

pub returns-in_err-p : goal.returns-in_err-p
returns-in_err-p c =
    let p = err_from_is_err_and c.from_residual.result c.from_residual.ensures.1 in
    rw (p.1, p.2) (draw_refused _ _ _ _ _ _ _ c.in_err-p.ensures)

pub overflow_mul-s : goal.overflow_mul-s
overflow_mul-s c = sizes_product _ _ c.in_ok-p.p.opens

pub returns-then-room-s : goal.returns-then-room-s
returns-then-room-s c = search (rules, short_counts c.args.bits.now c.args.tally.now c.in_ok-p.ensures c.in_ok-p.p.opens)

pub returns-then-s-number : goal.returns-then-s-number
returns-then-s-number c = search (rules, number_above c.args.bits.now c.args.tally.now c.in_ok-p.ensures c.in_ok-p.p.opens)

pub fits-requires : goal.fits-requires
fits-requires c = start_fitted _ _ _ c.in_ok-p.ensures c.in_ok-p.p.opens

pub returns-then-not-fits : goal.returns-then-not-fits
returns-then-not-fits c = search (rules, not_fitting c.args.bits.now c.args.tally.now c.in_ok-p.ensures c.in_ok-p.p.opens)

pub returns-then-record-ge-MAX_ROUNDS : goal.returns-then-record-ge-MAX_ROUNDS
returns-then-record-ge-MAX_ROUNDS c = search (rules, all_done c.args.bits.now c.args.tally.now c.in_ok-p.ensures c.in_ok-p.p.opens)

pub bit-requires : goal.bit-requires
bit-requires c = search (rules, bit_there _ _ _ c.in_ok-p.ensures c.in_ok-p.p.opens)

pub returns-then-bit-ne0 : goal.returns-then-bit-ne0
returns-then-bit-ne0 c = search (rules, is_taken c.args.bits.now c.args.tally.now c.in_ok-p.ensures c.in_ok-p.p.opens)

pub returns : goal.returns
returns c = (c.in_ok-p.ensures.0, search (rules, is_accepted c.args.bits.now c.args.tally.now c.in_ok-p.ensures c.in_ok-p.p.opens))
