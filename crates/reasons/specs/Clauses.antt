-- What the functions inside require and promise, on grids. Assumes nothing.
use Rattle.std.specs.Prelude.{cond, ℕ, ◌+◌, ◌/◌, ◌%◌, eqb, ltb}
use Rattle.table.specs.Whole.{down}
use Rattle.reasons.specs.declared.Entry.{Entry}
use Rattle.reasons.specs.declared.Entry.TheVariants.{Cell, RowTotal, ColumnTotal, GrandTotal}
use Rattle.reasons.specs.declared.Direction.{Direction}
use Rattle.reasons.specs.declared.Direction.TheVariants.{Down, Up, AllWhole}

-- the entry that stands at a place of the grid
abbrev pub entry_at : ℕ → Entry
entry_at k =
    cond (ltb (k / 13) 12)
    (cond (ltb (k % 13) 12) (Cell (k / 13 + 1) (k % 13 + 1)) (RowTotal (k / 13 + 1)))
    (cond (ltb (k % 13) 12) (ColumnTotal (k % 13 + 1)) GrandTotal)

-- how an entry e over w with the count n was rounded, where the weight is x
abbrev pub directed : ℕ → ℕ → ℕ → ℕ → Direction
directed w x e n = cond (eqb x w) AllWhole (cond (eqb n (down w e)) Down Up)
