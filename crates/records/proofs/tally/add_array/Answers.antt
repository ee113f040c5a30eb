use Rattle.reading.proofs.Sizing.{sized_fits, sized_few}
use Rattle.reading.proofs.Scratch.{read_within, read_length}
use Rattle.records.proofs.Tallying.{read_addable, read_added}
use borrow.Author.Rules.{rules}
use Rattle.records.proofs.tally.add_array.Goals as goal

pub overflow_mul-cells : goal.overflow_mul-cells
overflow_mul-cells c = search (rules, sized_fits)

pub read_array-requires-clause-room : goal.read_array-requires-clause-room
read_array-requires-clause-room c = sized_few c.args.plan.now.laid_out

pub slice_bounds-counts-end : goal.slice_bounds-counts-end
slice_bounds-counts-end c = search (rules, read_within)

pub slice_bounds-add_weighted-end : goal.slice_bounds-add_weighted-end
slice_bounds-add_weighted-end c = search (rules, read_length)

pub add_weighted-requires : goal.add_weighted-requires
add_weighted-requires c = search (rules, read_addable)

pub returns : goal.returns
returns c = search (rules, read_added)
