-- A test of every entry, in their order, is one of each cell, row total and column total and of the grand total. Assumes nothing.
use mathlib.Core.Path.{◌≡◌, refl, sym, ◌∙◌}
use mathlib.Core.Bool.{Bool, true}
use mathlib.Core.List.{List, ◌++◌}
use Prim.Native.Nat.{ℕ, ◌*◌, ◌<◌}
use Rattle.base.specs.Lists.{tabulate, all}
use Rattle.table.specs.Table.{cell_places, row_places, column_places, all_places, entry_places}
use Rattle.table.proofs.EntryPlaces.{from_rows, from_columns, from_grand}
use Rattle.base.proofs.Lists.{and_left, and_right, and_both, all_append, all_tabulate, tabulate_all}

-- every entry passes a test
pub record EachEntry (r c : ℕ) (f : List ℕ → Bool) : Type 0 where
  pub cells : (k : ℕ) → k < r * c → f (cell_places k) ≡ true
  pub rows : (i : ℕ) → i < r → f (row_places c i) ≡ true
  pub columns : (j : ℕ) → j < c → f (column_places r c j) ≡ true
  pub grand : f (all_places r c) ≡ true

module _ (f : List ℕ → Bool) where
  -- a first part, and the others
  module _ (n : ℕ) (g : ℕ → List ℕ) (rest : List (List ℕ)) where
    part_each : all f (tabulate n g ++ rest) ≡ true → ((i : ℕ) → i < n → f (g i) ≡ true) × (all f rest ≡ true)
    part_each h =
        let e = sym (all_append f (tabulate n g) rest) ∙ h in
        (tabulate_all f n g (and_left (all f (tabulate n g)) _ e), and_right (all f (tabulate n g)) _ e)

    each_part : ((i : ℕ) → i < n → f (g i) ≡ true) → all f rest ≡ true → all f (tabulate n g ++ rest) ≡ true
    each_part h k = all_append f (tabulate n g) rest ∙ and_both (all_tabulate f n g h) k

module _ (r c : ℕ) (f : List ℕ → Bool) where
  pub entries_each : all f (entry_places r c) ≡ true → EachEntry r c f
  unfolding entry_places all
  entries_each h =
      let a = part_each f (r * c) cell_places (from_rows r c) h in
      let b = part_each f r (row_places c) (from_columns r c) a.1 in
      let d = part_each f c (column_places r c) (from_grand r c) b.1 in
      record { cells = a.0; rows = b.0; columns = d.0; grand = and_left (f (all_places r c)) true d.1 }

  pub each_entries : EachEntry r c f → all f (entry_places r c) ≡ true
  unfolding entry_places all
  each_entries e =
      each_part f (r * c) cell_places (from_rows r c) e.cells
      (each_part f r (row_places c) (from_columns r c) e.rows (each_part f c (column_places r c) (from_grand r c) e.columns (and_both e.grand refl)))
