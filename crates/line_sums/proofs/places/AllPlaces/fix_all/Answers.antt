use borrow.Author.Rules.{rules}
use Rattle.line_sums.proofs.Fixes.{first_next, cell_inside}
use Rattle.line_sums.proofs.places.AllPlaces.fix_all.Goals as goal

pub fix-requires-clause-row : goal.fix-requires-clause-row
fix-requires-clause-row c = (cell_inside c.loop-n-test.true c.nth_row.ensures c.nth_column.ensures).0

pub fix-requires-clause-column : goal.fix-requires-clause-column
fix-requires-clause-column c = (cell_inside c.loop-n-test.true c.nth_row.ensures c.nth_column.ensures).1

pub loop-n-preserved : goal.loop-n-preserved
loop-n-preserved c = (search rules, search (rules, first_next))
