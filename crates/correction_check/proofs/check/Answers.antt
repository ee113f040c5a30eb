use Rattle.correction_check.specs.Clauses.{check_of}
use Rattle.table.proofs.Checks.{bad_sizes, denominator_small, bad_cell, good_cells}
use Rattle.std.proofs.lemmas.Result.{err_from_is_err_and}
use borrow.Author.Rules.{rules}
use Rattle.correction_check.proofs.check.Goals as goal

pub cells_within-requires : goal.cells_within-requires
cells_within-requires c = search (rules, denominator_small)

pub returns-then-not-cells_within : goal.returns-then-not-cells_within
unfolding check_of
returns-then-not-cells_within c = search (rules, bad_cell)

pub returns-in_err-t : goal.returns-in_err-t
unfolding check_of
returns-in_err-t c = let p = err_from_is_err_and c.from_residual.result c.from_residual.ensures.1 in rw (p.1, p.2) (bad_sizes _ _ _ _ c.sizes.ensures _ _ c.in_err-t.was)

pub returns : goal.returns
unfolding check_of
returns c = search (rules, good_cells)
