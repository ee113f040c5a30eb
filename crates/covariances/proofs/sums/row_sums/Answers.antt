use borrow.Author.Rules.{rules}
use Rattle.covariances.proofs.Rows.{row_arrays, row_place, row_bytes, row_end, factor_fits, row_more, row_all}
use Rattle.covariances.proofs.sums.row_sums.Goals as goal

pub shared_ref_as_front-array-items : goal.shared_ref_as_front-array-items
shared_ref_as_front-array-items c = search (rules, row_arrays)

pub bounds-array-a : goal.bounds-array-a
bounds-array-a c = search (rules, row_place)

pub offset_bounds-array-a : goal.offset_bounds-array-a
offset_bounds-array-a c = search (rules, row_bytes)

pub shared_ref_as_front-add_weighted : goal.shared_ref_as_front-add_weighted
shared_ref_as_front-add_weighted c = search (rules, row_end)

pub overflow_mul-factor : goal.overflow_mul-factor
overflow_mul-factor c = factor_fits c.args.plan.now.opens c.requires (search rules) c.weight.ensures (search rules)

pub loop-k-preserved : goal.loop-k-preserved
loop-k-preserved c = search (rules, row_more)

pub returns : goal.returns
returns c = search (rules, row_all)
