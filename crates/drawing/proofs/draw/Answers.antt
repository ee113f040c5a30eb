use native.Mathlib.Omega.{arith}
use Rattle.std.proofs.lemmas.Result.{err_from_is_err_and}
use Rattle.refusals.proofs.Dues.{refused_so, accepted_so}
use Rattle.opening.proofs.Opening.{sizes_product}
use Rattle.drawing.proofs.Drawing.{too_short, not_below, drawn, refused_first}
use Rattle.drawing.proofs.draw.Goals as goal

pub returns-in_err-opened : goal.returns-in_err-opened
returns-in_err-opened c =
    let p = err_from_is_err_and c.from_residual.result c.from_residual.ensures.1 in
    rw (p.1, p.2) (refused_so (refused_first _ _ _ _ c.in_err-opened.ensures))

pub overflow_mul-cells : goal.overflow_mul-cells
overflow_mul-cells c = sizes_product _ _ c.in_ok-opened.opened.opens

pub returns-then-counts-cells : goal.returns-then-counts-cells
returns-then-counts-cells c = refused_so (too_short _ _ _ _ (rw c.in_ok-opened.ensures at c.in_ok-opened.opened.opens) c.if-counts-cells.true)

pub returns-then-denominator-number : goal.returns-then-denominator-number
returns-then-denominator-number c = refused_so (not_below _ _ _ _ (rw c.in_ok-opened.ensures at c.in_ok-opened.opened.opens) (omega arith) c.if-denominator-number.true)

pub returns : goal.returns
returns c =
    rw (← c.in_ok-opened.ensures) (accepted_so (drawn _ _ _ _ c.in_ok-opened.opened.opens c.if-counts-cells.false c.if-denominator-number.false) c.write_array.ensures)
