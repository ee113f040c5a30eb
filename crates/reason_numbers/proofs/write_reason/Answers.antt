use Rattle.std.proofs.lemmas.Result.{err_from_is_err_and}
use Rattle.reason_numbers.proofs.Replying.{reply_refused, no_room, replied}
use Rattle.reason_numbers.proofs.write_reason.Goals as goal

pub returns-in_err-found : goal.returns-in_err-found
returns-in_err-found c =
    let p = err_from_is_err_and c.from_residual.result c.from_residual.ensures.1 in
    rw (p.1, p.2) (reply_refused _ _ _ _ _ _ c.reason.ensures c.in_err-found.was)

pub returns-then-reply-lt4 : goal.returns-then-reply-lt4
returns-then-reply-lt4 c = no_room _ _ _ _ _ _ c.reason.ensures c.in_ok-found.was c.if-reply-lt4.true

pub returns : goal.returns
returns c = replied _ _ _ _ _ _ c.reason.ensures c.in_ok-found.was c.if-reply-lt4.false c.entry_numbers.ensures c.direction_number.ensures c.write_four.ensures
