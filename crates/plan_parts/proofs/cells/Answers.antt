use Rattle.std.proofs.lemmas.Result.{err_from_is_err_and}
use Rattle.opening.proofs.Opening.{sizes_product}
use Rattle.plan_parts.proofs.Telling.{cells_refused, cells_short, cells_told}
use Rattle.plan_parts.proofs.cells.Goals as goal

pub returns-in_err-opened : goal.returns-in_err-opened
returns-in_err-opened c =
    let p = err_from_is_err_and c.from_residual.result c.from_residual.ensures.1 in
    rw (p.1, p.2) (cells_refused _ _ c.in_err-opened.ensures)

pub overflow_mul-s : goal.overflow_mul-s
overflow_mul-s c = sizes_product _ _ c.in_ok-opened.opened.opens

pub returns-then-cells-s : goal.returns-then-cells-s
returns-then-cells-s c = cells_short _ _ (rw c.in_ok-opened.ensures at c.in_ok-opened.opened.opens) c.if-cells-s.true

pub returns : goal.returns
returns c = rw (← c.in_ok-opened.ensures) (cells_told _ _ c.in_ok-opened.opened.opens c.if-cells-s.false c.read_table.ensures)
