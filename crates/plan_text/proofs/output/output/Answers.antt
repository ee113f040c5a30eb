use Rattle.plan_text.proofs.Outputs.{text_refused, numbers_held, table_printed}
use Rattle.plan_text.proofs.output.output.Goals as goal

pub returns-in_default : goal.returns-in_default
returns-in_default c = text_refused _ c.parse.ensures c.in_default.is c.print_text_refusal.ensures

pub slice_bounds-output_table-count : goal.slice_bounds-output_table-count
slice_bounds-output_table-count c = (numbers_held _ c.parse.ensures c.in-Some.is).enough

pub slice_bounds-output_table-start : goal.slice_bounds-output_table-start
slice_bounds-output_table-start c = (numbers_held _ c.parse.ensures c.in-Some.is).enough

pub returns : goal.returns
returns c = table_printed (numbers_held _ c.parse.ensures c.in-Some.is) c.output_table.ensures
