-- Controlled roundings (specification, "The rounding"). Assumes nothing.
use Rattle.std.specs.Prelude.{Bool, ◌&&◌, List, ℕ, ◌*◌, length, eqb}
use Rattle.base.specs.Lists.{all}
use Rattle.table.specs.Table.{total, entry_places}
use Rattle.table.specs.Whole.{rounds_to}

-- which entries a table has: how many cells, and each entry, cells and totals, by the places that it is the sum of
pub record Entries : Type 0 where
  pub cells : ℕ
  pub places : List (List ℕ)

-- a table of r rows and c columns: its cells, row totals, column totals and grand total
abbrev pub two_ways : ℕ → ℕ → Entries
two_ways r c = record { cells = r * c; places = entry_places r c }

-- n has one count a cell, and each of its entries, totals included, is the table's over w, rounded down or up; a whole one stays. A count of an accepted table
-- is at most 1,000.
unfoldable pub is_rounding : Entries → ℕ → List ℕ → List ℕ → Bool
is_rounding e w g n = eqb (length n) e.cells && all (λ s. rounds_to w (total g s) (total n s)) e.places
