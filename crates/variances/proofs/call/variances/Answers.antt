use Rattle.std.proofs.lemmas.Result.{err_from_is_err_and}
use Rattle.variances.proofs.Answering.{variances_refused, variances_short, variances_told}
use Rattle.variances.proofs.call.variances.Goals as goal

pub returns-in_err-opened : goal.returns-in_err-opened
returns-in_err-opened c =
    let p = err_from_is_err_and c.from_residual.result c.from_residual.ensures.1 in
    rw (p.1, p.2) (variances_refused _ _ c.in_err-opened.ensures)

pub returns-then-out-lt3 : goal.returns-then-out-lt3
returns-then-out-lt3 c = variances_short _ _ (rw c.in_ok-opened.ensures at c.in_ok-opened.opened.opens) c.if-out-lt3.true

pub returns : goal.returns
returns c = rw (← c.in_ok-opened.ensures) (variances_told _ _ c.in_ok-opened.opened.opens c.if-out-lt3.false c.measure.ensures c.write_numerators.ensures)
