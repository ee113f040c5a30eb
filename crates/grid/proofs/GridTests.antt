-- A test of every entry, in their order, is a test at every place of the grid. Assumes nothing.
use mathlib.Core.Path.{◌≡◌, sym, ap, subst, ◌∙◌}
use mathlib.Core.Bool.{Bool, true}
use mathlib.Core.List.{List, []}
use Prim.Native.Nat.{ℕ, ◌+◌, ◌*◌, ◌/◌, ◌%◌, ◌<◌}
use native.Mathlib.Decide.{dec_lt}
use native.Mathlib.Omega.{arith}
use lib.Arith.{digits_lt}
use Rattle.base.specs.Lists.{all}
use Rattle.table.specs.Table.{cell_places, row_places, column_places, all_places, entry_places}
use Rattle.grid.specs.Clauses.{grid_places}
use Rattle.table.specs.Clauses.{Shape}
use Rattle.grid.proofs.GridPlaces.{grid_no_row, grid_row, grid_past, grid_cell_lem, grid_column, grid_no_column, grid_grand}
use Rattle.table.proofs.Sizes.{place_of}
use Rattle.table.proofs.EntryTests.{entries_each, each_entries}

-- what holds of every entry and of the empty sum holds at every place of the grid
pub grid_each : (r c : ℕ) (P : List ℕ → Type 0) → P [] → ((k : ℕ) → k < r * c → P (cell_places k)) → ((i : ℕ) → i < r → P (row_places c i))
    → ((j : ℕ) → j < c → P (column_places r c j)) → P (all_places r c) → (p q : ℕ) → P (grid_places r c p q)
grid_each r c P none cells rows columns grand p q = go (dec_lt p 12) (dec_lt p r) (dec_lt q 12) (dec_lt q c)
  where
    at : {s : List ℕ} → grid_places r c p q ≡ s → P s → P (grid_places r c p q)
    at e h = subst P (sym e) h

    go : Dec (p < 12) → Dec (p < r) → Dec (q < 12) → Dec (q < c) → P (grid_places r c p q)
    go (yes a) (yes b) (yes k) (yes l) = at (grid_cell_lem r c p q a b k l) (cells (p * c + q) (digits_lt b l))
    go (yes a) (yes b) (yes k) (no l) = at (grid_past r c p q a b k (omega arith)) none
    go (yes a) (yes b) (no k) l = at (grid_row r c p q a b (omega arith)) (rows p b)
    go (yes a) (no b) k l = at (grid_no_row r c p q a (omega arith)) none
    go (no a) b (yes k) (yes l) = at (grid_column r c p q (omega arith) k l) (columns q l)
    go (no a) b (yes k) (no l) = at (grid_no_column r c p q (omega arith) k (omega arith)) none
    go (no a) b (no k) l = at (grid_grand r c p q (omega arith) (omega arith)) grand

module _ {r c : ℕ} {g : List ℕ} (s : Shape r c g) (f : List ℕ → Bool) where
  -- a test that the empty sum passes
  pub entries_grid : all f (entry_places r c) ≡ true → f [] ≡ true → (p q : ℕ) → p < 13 → q < 13 → f (grid_places r c p q) ≡ true
  entries_grid h none p q hp hq =
      let e = entries_each r c f h in
      grid_each r c (λ x. f x ≡ true) none e.cells e.rows e.columns e.grand p q

  pub grid_entries : ((p q : ℕ) → p < 13 → q < 13 → f (grid_places r c p q) ≡ true) → all f (entry_places r c) ≡ true
  grid_entries h = each_entries r c f
      (record {
        cells = λ k l.
            let p = place_of s l in
            sym (ap f (grid_cell_lem r c (k / c) (k % c) p.row_small p.row p.column_small p.column ∙ ap cell_places p.is))
            ∙ h (k / c) (k % c) (omega (arith, p.row_small)) (omega (arith, p.column_small));
        rows = λ i l. sym (ap f (grid_row r c i 12 (omega (arith, s.rows)) l (omega arith))) ∙ h i 12 (omega (arith, s.rows)) (omega arith);
        columns = λ j l. sym (ap f (grid_column r c 12 j (omega arith) (omega (arith, s.columns)) l)) ∙ h 12 j (omega arith) (omega (arith, s.columns));
        grand = sym (ap f (grid_grand r c 12 12 (omega arith) (omega arith))) ∙ h 12 12 (omega arith) (omega arith);
      })
