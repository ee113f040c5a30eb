-- The entries, in their order, are what stands at the places of `grid_order`. Assumes nothing.
use mathlib.Core.Path.{◌≡◌, sym, ap, ◌∙◌}
use mathlib.Core.List.{List, map, map-append}
use Prim.Native.Nat.{ℕ, ◌*◌, ◌/◌, ◌%◌, ◌<◌}
use native.Mathlib.Omega.{arith}
use lib.ListN.{get_or}
use Rattle.base.proofs.Lists.{tabulate_ext, map_tabulate}
use Rattle.table.specs.Table.{total, cell_places, row_places, column_places, all_places, entry_places, entries}
use Rattle.table.specs.Clauses.{Shape}
use Rattle.table.proofs.Sizes.{place_of}
use Rattle.grid.specs.Clauses.{grid_places, grid_at, grid_place, grid_of, grid_order}
use Rattle.grid.proofs.GridPlaces.{grid_at_lem, grid_cell_lem, grid_row, grid_column, grid_grand}

module _ {r c : ℕ} {g : List ℕ} (s : Shape r c g) where
  abbrev value : ℕ → ℕ
  value k = get_or (grid_of r c g) k 0

  at : (p q : ℕ) → p < 13 → q < 13 → (x : List ℕ) → grid_places r c p q ≡ x → total g x ≡ value (grid_place p q)
  unfolding grid_at
  at p q hp hq x e = ap (total g) (sym e) ∙ sym (grid_at_lem r c g p q hp hq)

  cell : (k : ℕ) → k < r * c → total g (cell_places k) ≡ value (grid_place (k / c) (k % c))
  cell k h =
      let p = place_of s h in
      at (k / c) (k % c) (omega (arith, p.row_small)) (omega (arith, p.column_small)) (cell_places k)
      (grid_cell_lem r c (k / c) (k % c) p.row_small p.row p.column_small p.column ∙ ap cell_places p.is)

  row : (i : ℕ) → i < r → total g (row_places c i) ≡ value (grid_place i 12)
  row i h = at i 12 (omega (arith, s.rows)) (omega arith) (row_places c i) (grid_row r c i 12 (omega (arith, s.rows)) h (omega arith))

  column : (j : ℕ) → j < c → total g (column_places r c j) ≡ value (grid_place 12 j)
  column j h = at 12 j (omega arith) (omega (arith, s.columns)) (column_places r c j) (grid_column r c 12 j (omega arith) (omega (arith, s.columns)) h)

  -- the entries in their order are what stands at the places of `grid_order`
  pub order_entries : entries r c g ≡ map (λ k. get_or (grid_of r c g) k 0) (grid_order r c)
  unfolding entries entry_places grid_order
  order_entries =
      let cells = tabulate_ext (r * c) (λ k. total g (cell_places k)) (λ k. value (grid_place (k / c) (k % c))) cell in
      let rows = tabulate_ext r (λ i. total g (row_places c i)) (λ i. value (grid_place i 12)) row in
      let columns = tabulate_ext c (λ j. total g (column_places r c j)) (λ j. value (grid_place 12 j)) column in
      let grand = at 12 12 (omega arith) (omega arith) (all_places r c) (grid_grand r c 12 12 (omega arith) (omega arith)) in
      simp (map-append, map_tabulate, cells, rows, columns, grand)
