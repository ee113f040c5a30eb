use Rattle.reading.proofs.Sizing.{sized_fits, sized_few, sized_denominator}
use Rattle.opening.proofs.ContentTests.{cells_within_room, cells_part, consistent_is, table_is}
use borrow.Author.Rules.{rules}
use Rattle.opening.proofs.content.consistent.Goals as goal

pub read_table-requires : goal.read_table-requires
read_table-requires c = sized_few c.args.plan.now.laid_out

pub overflow_mul-room : goal.overflow_mul-room
overflow_mul-room c = sized_fits c.args.plan.now.laid_out

pub slice_bounds-room-end : goal.slice_bounds-room-end
slice_bounds-room-end c = cells_within_room c.args.plan.now.laid_out c.read_table.ensures

pub slice_bounds-cells-end : goal.slice_bounds-cells-end
slice_bounds-cells-end c = cells_part c.args.plan.now.laid_out c.read_table.ensures

pub cells_within-requires : goal.cells_within-requires
cells_within-requires c = search (rules, sized_denominator)

pub arrays_right-requires : goal.arrays_right-requires
arrays_right-requires c = table_is c.args.plan.now.laid_out c.read_table.ensures (search rules)

pub returns-then-weights_right : goal.returns-then-weights_right
returns-then-weights_right c = rw (consistent_is c.args.plan.now.laid_out c.read_table.ensures) (search rules)

pub returns-else-weights_right : goal.returns-else-weights_right
returns-else-weights_right c = rw (consistent_is c.args.plan.now.laid_out c.read_table.ensures) (search rules)
