use Rattle.std.proofs.lemmas.Result.{err_from_is_err_and}
use Rattle.refusals.proofs.Dues.{refused_so}
use Rattle.walk.proofs.Calls.{first_refused, first_rounds}
use Rattle.walk.proofs.first.Goals as goal

pub returns-in_err-check_sides : goal.returns-in_err-check_sides
returns-in_err-check_sides c =
    let p = err_from_is_err_and c.from_residual.result c.from_residual.ensures.1 in
    rw (p.1, p.2) (refused_so (first_refused _ _ _ _ c.check_sides.ensures c.in_err-check_sides.was _))

pub returns : goal.returns
returns c = first_rounds _ _ _ _ c.check_sides.ensures c.in_ok-check_sides.was c.round.ensures
