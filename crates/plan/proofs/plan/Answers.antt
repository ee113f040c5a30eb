use Rattle.std.proofs.lemmas.Result.{err_from_is_err_and}
use Rattle.plan.proofs.PlanCalls.{refused, answered}
use Rattle.plan.proofs.plan.Goals as goal

pub returns-in_err-t : goal.returns-in_err-t
returns-in_err-t c =
    let p = err_from_is_err_and c.from_residual.result c.from_residual.ensures.1 in
    rw (p.1, p.2) (refused _ _ _ _ c.in_err-t.ensures)

pub returns : goal.returns
returns c = answered _ _ _ _ c.in_ok-t.ensures.1 (rw c.in_ok-t.ensures.0 at c.plan_table.ensures)
