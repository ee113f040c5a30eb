use native.Mathlib.Omega.{arith}
use Rattle.std.proofs.lemmas.Result.{err_from_is_err_and}
use Rattle.plan_parts.proofs.Telling.{sizes_refused, sizes_short, sizes_ready, sizes_told}
use Rattle.plan_parts.proofs.sizes.Goals as goal

pub returns-in_err-opened : goal.returns-in_err-opened
returns-in_err-opened c =
    let p = err_from_is_err_and c.from_residual.result c.from_residual.ensures.1 in
    rw (p.1, p.2) (sizes_refused _ _ c.in_err-opened.ensures)

pub returns-then-numbers-lt4 : goal.returns-then-numbers-lt4
returns-then-numbers-lt4 c = sizes_short _ _ (rw c.in_ok-opened.ensures at c.in_ok-opened.opened.opens) (omega arith)

pub write_sizes-requires : goal.write_sizes-requires
write_sizes-requires c = sizes_ready _ _ c.in_ok-opened.opened.opens (omega arith)

pub returns : goal.returns
returns c = sizes_told _ _ (rw c.in_ok-opened.ensures at c.in_ok-opened.opened.opens) (omega arith) c.write_sizes.ensures
