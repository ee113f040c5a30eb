use Rattle.std.proofs.lemmas.Result.{err_from_is_err_and}
use Rattle.walk.proofs.Calls.{large_refused, small_checked}
use Rattle.walk.proofs.check_small.Goals as goal

pub returns-in_err-check_sides : goal.returns-in_err-check_sides
returns-in_err-check_sides c =
    let p = err_from_is_err_and c.from_residual.result c.from_residual.ensures.1 in
    rw (p.1, p.2) (large_refused _ _ _ _ c.check_sides.ensures c.in_err-check_sides.was)

pub returns : goal.returns
returns c = rw (small_checked _ _ _ _ c.check_sides.ensures c.in_ok-check_sides.was) at c.accept.ensures
