use Rattle.std.proofs.lemmas.Result.{err_from_is_err_and}
use Rattle.refusals.proofs.Dues.{refused_so, accepted_so}
use Rattle.rounding.proofs.Calls.{refused, short, enough, done}
use Rattle.rounding.proofs.round.Goals as goal

pub returns-in_err-t : goal.returns-in_err-t
returns-in_err-t c =
    let p = err_from_is_err_and c.from_residual.result c.from_residual.ensures.1 in
    rw (p.1, p.2) (refused_so (refused _ _ _ _ _ c.in_err-t.ensures))

pub returns-then-counts-t : goal.returns-then-counts-t
returns-then-counts-t c = refused_so (short _ _ _ _ _ c.in_ok-t.ensures.1 (rw c.in_ok-t.ensures.0 at c.if-counts-t.true))

pub returns : goal.returns
returns c =
    accepted_so (enough _ _ _ _ _ c.in_ok-t.ensures.1 (rw c.in_ok-t.ensures.0 at c.if-counts-t.false))
    (done _ _ _ _ 0 c.in_ok-t.ensures.1 _ _ (rw c.in_ok-t.ensures.0 at c.write_rounding.ensures))
