use borrow.Author.Rules.{rules}
use borrow.Author.Tests.{tests}
use Rattle.grid.proofs.GridPlaces.{grid_no_row, grid_past, grid_cell_lem, grid_row, grid_no_column, grid_column, grid_grand, grid_none, grid_total}
use Rattle.grid.proofs.entry.Goals as goal

pub returns-in-true-true : goal.returns-in-true-true
returns-in-true-true c =
    grid_total _ _ _ _ _ _ _ (grid_cell_lem _ _ _ _ (search (rules, tests)) c.if-p-rows.true (search (rules, tests)) c.if-q-columns.true) c.sum.ensures

pub returns-in-true-false : goal.returns-in-true-false
returns-in-true-false c =
    grid_total _ _ _ _ _ _ _ (grid_row _ _ _ _ (search (rules, tests)) c.if-p-rows-2.true (search (rules, tests))) c.sum-in-true-false.ensures

pub returns-in-false-true : goal.returns-in-false-true
returns-in-false-true c =
    grid_total _ _ _ _ _ _ _ (grid_column _ _ _ _ (search (rules, tests)) (search (rules, tests)) c.if-q-columns-2.true) c.sum-in-false-true.ensures

pub returns-in-false-false : goal.returns-in-false-false
returns-in-false-false c =
    grid_total _ _ _ _ _ _ _ (grid_grand _ _ _ _ (search (rules, tests)) (search (rules, tests))) c.sum-in-false-false.ensures

pub returns-in_default : goal.returns-in_default
returns-in_default c =
    grid_none _ _ _ _ _ (grid_past _ _ _ _ (search (rules, tests)) c.if-p-rows.true (search (rules, tests)) c.if-q-columns.false)

pub returns-in_default-2 : goal.returns-in_default-2
returns-in_default-2 c = grid_none _ _ _ _ _ (grid_no_row _ _ _ _ (search (rules, tests)) c.if-p-rows.false)

pub returns-in_default-3 : goal.returns-in_default-3
returns-in_default-3 c = grid_none _ _ _ _ _ (grid_no_row _ _ _ _ (search (rules, tests)) c.if-p-rows-2.false)

pub returns-in_default-4 : goal.returns-in_default-4
returns-in_default-4 c = grid_none _ _ _ _ _ (grid_no_column _ _ _ _ (search (rules, tests)) (search (rules, tests)) c.if-q-columns-2.false)
