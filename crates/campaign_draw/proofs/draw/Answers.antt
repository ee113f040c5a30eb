use native.Mathlib.Omega.{arith}
use Rattle.std.proofs.lemmas.Result.{err_from_is_err_and}
use Rattle.opening.proofs.Opening.{sizes_product}
use Rattle.campaign_draw.proofs.Calling.{array_asked, part_within, part_long, addable, bit_asked, round_asked, count_small, draw_keeps, draw_leaves}
use Rattle.campaign_draw.proofs.draw.Goals as goal

pub returns-in_err-p : goal.returns-in_err-p
returns-in_err-p c =
    let p = err_from_is_err_and c.from_residual.result c.from_residual.ensures.1 in
    rw (p.1, p.2) (draw_keeps _ _ _ _ c.in_err-p.ensures)

pub overflow_mul-cells : goal.overflow_mul-cells
overflow_mul-cells c = sizes_product _ _ c.in_ok-p.p.opens

pub write_array-requires : goal.write_array-requires
write_array-requires c = array_asked _ _ _ _ c.in_ok-p.ensures c.in_ok-p.p.opens (omega arith)

pub slice_bounds-add_counts-end : goal.slice_bounds-add_counts-end
slice_bounds-add_counts-end c = part_within _ _ _ _ c.in_ok-p.ensures c.in_ok-p.p.opens c.write_array.ensures

pub slice_bounds-add_counts-end-2 : goal.slice_bounds-add_counts-end-2
slice_bounds-add_counts-end-2 c = part_long _ _ _ _ c.in_ok-p.ensures c.in_ok-p.p.opens c.write_array.ensures

pub add_counts-requires : goal.add_counts-requires
add_counts-requires c = addable _ _ _ _ c.in_ok-p.ensures c.in_ok-p.p.opens c.write_array.ensures

pub set_bit-requires : goal.set_bit-requires
set_bit-requires c = bit_asked _ _ _ _ c.in_ok-p.ensures c.in_ok-p.p.opens

pub overflow_add-next : goal.overflow_add-next
overflow_add-next c = omega (arith, count_small _ _ _ _ c.in_ok-p.ensures c.in_ok-p.p.opens)

pub close_round-requires : goal.close_round-requires
close_round-requires c = round_asked _ _ _ _ c.in_ok-p.ensures c.in_ok-p.p.opens c.set_bit.ensures

pub returns : goal.returns
returns c =
    draw_leaves _ _ _ _ c.in_ok-p.ensures c.in_ok-p.p.opens c.write_array.ensures c.add_counts.ensures c.set_bit.ensures c.close_round.ensures
