use Rattle.std.proofs.lemmas.Result.{err_from_is_err_and}
use Rattle.reasons.proofs.Asking.{table_refused, asked}
use Rattle.reasons.proofs.reason.Goals as goal

pub returns-in_err-t : goal.returns-in_err-t
returns-in_err-t c =
    let p = err_from_is_err_and c.from_residual.result c.from_residual.ensures.1 in
    rw (p.1, p.2) (table_refused _ _ _ _ _ c.in_err-t.ensures)

pub returns : goal.returns
returns c = asked _ _ _ _ c.in_ok-t.ensures.1 _ (rw c.in_ok-t.ensures.0 at c.find.ensures)
