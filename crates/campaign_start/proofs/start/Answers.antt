use mathlib.Core.Path.{refl, ◌∙◌}
use native.Mathlib.Omega.{arith}
use Rattle.std.proofs.lemmas.Result.{err_from_is_err_and}
use Rattle.opening.proofs.Opening.{sizes_product}
use Rattle.campaign_start.proofs.Starting.{bytes_are, part_length, zeroed, start_fitted, start_keeps, start_leaves}
use Rattle.campaign_start.proofs.start.Goals as goal

pub returns-in_err-s : goal.returns-in_err-s
returns-in_err-s c =
    let p = err_from_is_err_and c.from_residual.result c.from_residual.ensures.1 in
    rw (p.1, p.2) (start_keeps _ _ _ _ _ c.in_err-s.ensures)

pub slice_bounds-fill-end : goal.slice_bounds-fill-end
slice_bounds-fill-end c =
    omega (arith, c.div_ceil.ensures, bytes_are c.in_ok-s.field-0.plan.sizes.denominator, (start_fitted _ _ _ c.in_ok-s.ensures c.in_ok-s.field-0.opens).bits_room)

pub slice_bounds-fill-end-2 : goal.slice_bounds-fill-end-2
slice_bounds-fill-end-2 c =
    part_length _ _ (omega (arith, c.div_ceil.ensures, bytes_are c.in_ok-s.field-0.plan.sizes.denominator, (start_fitted _ _ _ c.in_ok-s.ensures c.in_ok-s.field-0.opens).bits_room))

pub overflow_mul-cells : goal.overflow_mul-cells
overflow_mul-cells c = sizes_product _ _ c.in_ok-s.field-0.opens

pub slice_bounds-fill-end-3 : goal.slice_bounds-fill-end-3
slice_bounds-fill-end-3 c = omega (arith, (start_fitted _ _ _ c.in_ok-s.ensures c.in_ok-s.field-0.opens).tally_room)

pub slice_bounds-fill-end-4 : goal.slice_bounds-fill-end-4
slice_bounds-fill-end-4 c = omega (arith, part_length _ _ (start_fitted _ _ _ c.in_ok-s.ensures c.in_ok-s.field-0.opens).tally_room)

pub returns : goal.returns
returns c =
    let f = start_fitted _ _ _ c.in_ok-s.ensures c.in_ok-s.field-0.opens in
    start_leaves _ _ _ c.in_ok-s.ensures c.in_ok-s.field-0.opens _ _
    (zeroed (c.div_ceil.ensures ∙ bytes_are c.in_ok-s.field-0.plan.sizes.denominator) c.args.bits.now f.bits_room (c.fill.ensures.after (λ y e. e)))
    (zeroed refl c.args.tally.now f.tally_room (c.fill-2.ensures.after (λ y e. e)))
