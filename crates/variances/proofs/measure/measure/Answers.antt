use Rattle.reading.proofs.Sizing.{sized_few, sized_fits}
use Rattle.variances.proofs.Measuring.{table_inside, table_long, table_is, variances_ready, measured}
use borrow.Author.Rules.{rules}
use Rattle.variances.proofs.measure.measure.Goals as goal

pub read_table-requires : goal.read_table-requires
read_table-requires c = search (rules, sized_few)

pub overflow_mul-table : goal.overflow_mul-table
overflow_mul-table c = search (rules, sized_fits)

pub slice_bounds-table-end : goal.slice_bounds-table-end
slice_bounds-table-end c = search (rules, table_inside)

pub slice_bounds-cells-end : goal.slice_bounds-cells-end
slice_bounds-cells-end c = search (rules, table_long)

pub cell_variances-variances-requires : goal.cell_variances-variances-requires
cell_variances-variances-requires c = search (rules, variances_ready)

pub extremes-e-requires : goal.extremes-e-requires
extremes-e-requires c = search (rules, table_is)

pub returns : goal.returns
returns c = search (rules, measured)
