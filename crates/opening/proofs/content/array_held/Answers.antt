use Rattle.reading.proofs.Sizing.{sized_fits, sized_few}
use Rattle.reading.proofs.Scratch.{read_within, read_length}
use Rattle.opening.proofs.ContentTests.{read_addable, read_counts, array_tested}
use borrow.Author.Rules.{rules}
use Rattle.opening.proofs.content.array_held.Goals as goal

pub overflow_mul-cells : goal.overflow_mul-cells
overflow_mul-cells c = search (rules, sized_fits)

pub read_array-requires-clause-room : goal.read_array-requires-clause-room
read_array-requires-clause-room c = sized_few c.args.plan.now.laid_out

pub slice_bounds-counts-end : goal.slice_bounds-counts-end
slice_bounds-counts-end c = search (rules, read_within)

pub slice_bounds-add_weighted-end : goal.slice_bounds-add_weighted-end
slice_bounds-add_weighted-end c = search (rules, read_length)

pub add_weighted-requires : goal.add_weighted-requires
add_weighted-requires c = read_addable c.args.plan.now.laid_out c.requires.there c.read_array.ensures c.requires.so_far

pub slice_bounds-counts-end-2 : goal.slice_bounds-counts-end-2
slice_bounds-counts-end-2 c = search (rules, read_within)

pub slice_bounds-hold-end : goal.slice_bounds-hold-end
slice_bounds-hold-end c = search (rules, read_length)

pub hold-requires : goal.hold-requires
hold-requires c = read_counts c.args.plan.now.laid_out c.requires.there c.read_array.ensures c.requires.so_far

pub returns : goal.returns
returns c =
    array_tested c.args.plan.now.laid_out c.requires.there c.read_array.ensures c.requires.so_far c.weight.ensures c.add_weighted.ensures c.hold.ensures
