-- What the call knows of its two parts, their scale and their pooled cells says at each return what is due.
use mathlib.Core.Path.{refl, ap}
use mathlib.Core.Bool.{not}
use native.Mathlib.Omega.{arith}
use Rattle.std.proofs.lemmas.Bool.Decides.{nat_tests}
use Rattle.std.proofs.lemmas.Result.{err_from_is_err_and}
use Rattle.pool.proofs.Calls.{parts_stop, pair_denominators, cells_scaled, multiple_stops, cell_stops, numbers_stop, cells_stop, can_write, pooled}
use Rattle.pool.proofs.pool.Goals as goal
use Rattle.pool.proofs.pool.Goals.{then-is_empty-via-then-is_empty, then-is_empty-via-else-is_empty+then-cells-s}

pub scale_of-s-requires : goal.scale_of-s-requires
scale_of-s-requires c = pair_denominators _ _ _ _ _ _ c.check_parts.ensures c.in_ok-p.was

pub pooled_within-requires : goal.pooled_within-requires
pooled_within-requires c = cells_scaled _ _ _ _ _ _ c.check_parts.ensures c.in_ok-p.was c.scale_of-s.ensures

pub returns-then-from-s : goal.returns-then-from-s
returns-then-from-s c =
    multiple_stops _ _ _ _ _ _ _ _ c.check_parts.ensures c.in_ok-p.was c.scale_of-s.ensures (omega arith)

pub returns-then-not-pooled_within : goal.returns-then-not-pooled_within
returns-then-not-pooled_within c =
    cell_stops _ _ _ _ _ _ _ _ c.check_parts.ensures c.in_ok-p.was c.scale_of-s.ensures (omega arith)
    c.pooled_within.ensures (ap not c.if-not-pooled_within.true)

pub write_pooled-requires : goal.write_pooled-requires
write_pooled-requires c =
    can_write _ _ _ _ _ _ c.check_parts.ensures c.in_ok-p.was c.scale_of-s.ensures (omega arith)
    c.pooled_within.ensures (ap not c.if-not-pooled_within.false) _ c.if-cells-s.false

pub returns-in_err-p : goal.returns-in_err-p
returns-in_err-p c =
    let e = err_from_is_err_and c.from_residual.result c.from_residual.ensures.1 in
    rw (e.1, e.2) (parts_stop _ _ _ _ _ _ _ _ c.check_parts.ensures c.in_err-p.was)

pub returns-then-is_empty : goal.returns-then-is_empty
returns-then-is_empty c =
    elim c.then-is_empty.branch [
      | then-is_empty-via-then-is_empty w ↦ numbers_stop _ _ _ _ _ _ _ _ c.check_parts.ensures c.in_ok-p.was c.scale_of-s.ensures (omega arith)
          c.pooled_within.ensures (ap not c.if-not-pooled_within.false) (grind (arith, nat_tests))
      | then-is_empty-via-else-is_empty+then-cells-s w ↦ cells_stop _ _ _ _ _ _ _ _ c.check_parts.ensures c.in_ok-p.was c.scale_of-s.ensures (omega arith)
          c.pooled_within.ensures (ap not c.if-not-pooled_within.false) (grind (arith, nat_tests)) w.if-cells-s.true
    ]

pub returns : goal.returns
returns c =
    pooled _ _ _ _ _ _ _ _ c.check_parts.ensures c.in_ok-p.was c.scale_of-s.ensures (omega arith)
    c.pooled_within.ensures (ap not c.if-not-pooled_within.false) (grind (arith, nat_tests)) c.if-cells-s.false refl
    c.write_pooled.ensures
