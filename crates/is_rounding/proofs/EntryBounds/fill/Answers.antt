use borrow.Author.Rules.{rules}
use Rattle.table.proofs.EntryPlaces.{entries_length}
use Rattle.is_rounding.proofs.EntryLines.{stands_rows, stands_columns, stands_grand, kind_bounds, cells_bounds, bounds_of}
use Rattle.is_rounding.proofs.EntryBounds.fill.Goals as goal

pub returns : goal.returns
returns c =
    bounds_of
    (kind_bounds
    (kind_bounds
    (kind_bounds (cells_bounds _ _ _ _ (rw c.cells.ensures at c.add_lines.ensures))
    (stands_rows _ _) (rw c.rows.ensures at c.add_lines-2.ensures))
    (stands_columns _ _) (rw c.columns.ensures at c.add_lines-3.ensures))
    (stands_grand _ _) (rw c.grand.ensures at c.add_lines-4.ensures))
    (record { low_length = search rules; high_length = search rules }) (entries_length _ _)
