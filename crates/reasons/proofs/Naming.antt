-- The names of the entries, and where they stand in the grid. Assumes nothing.
use mathlib.Core.Path.{◌≡◌, refl, sym, ap, ap₂, subst, ◌∙◌}
use mathlib.Core.Logic.{⊎_elim}
use mathlib.Core.List.Memᴰ
use mathlib.Core.List.{List, map, map-append, Memᴰ as Member}
use Prim.Native.Nat.{ℕ, ◌+◌, ◌-◌, ◌*◌, ◌/◌, ◌%◌, ◌<◌}
use native.Mathlib.Nat.{div-add-mod'}
use native.Mathlib.Omega.{arith}
use lib.Arith.{digits_div, digits_mod}
use borrow.Author.Tests.{lt-ltb}
use Rattle.base.specs.Lists.{tabulate}
use Rattle.base.proofs.Lists.{tabulate_ext, map_tabulate, tabulate_member}
use Rattle.table.specs.Table.{cell_places, row_places, column_places, entry_places}
use Rattle.table.specs.Clauses.{Shape}
use Rattle.table.proofs.Sizes.{place_of}
use Rattle.grid.specs.Clauses.{grid_places, grid_place, grid_order}
use Rattle.grid.proofs.GridPlaces.{grid_cell_lem, grid_row, grid_column, grid_grand}
use Rattle.reasons.specs.declared.Entry.{Entry}
use Rattle.reasons.specs.declared.Entry.TheVariants.{Cell, RowTotal, ColumnTotal}
use Rattle.reasons.specs.Reason.{named_entries, places_of}
use Rattle.reasons.specs.Clauses.{entry_at}

-- counted from 1 and back
back : (i : ℕ) → i + 1 - 1 ≡ i
back i = omega arith

-- the named entries are the table's, in their order
pub names_places : (r c : ℕ) → map (places_of r c) (named_entries r c) ≡ entry_places r c
unfolding named_entries entry_places
names_places r c =
    let cells = tabulate_ext (r * c) (λ k. places_of r c (Cell (k / c + 1) (k % c + 1))) cell_places
    (λ k h. rw (back (k / c), back (k % c)) (ap cell_places (div-add-mod' k c))) in
    let rows = tabulate_ext r (λ i. places_of r c (RowTotal (i + 1))) (row_places c) (λ i h. ap (row_places c) (back i)) in
    let columns = tabulate_ext c (λ j. places_of r c (ColumnTotal (j + 1))) (column_places r c) (λ j h. ap (column_places r c) (back j)) in
    simp (map-append, map_tabulate, cells, rows, columns)

-- the entry at each kind of place of the grid
at_cell : (p q : ℕ) → p < 12 → q < 12 → entry_at (grid_place p q) ≡ Cell (p + 1) (q + 1)
at_cell p q hp hq = rw (digits_div p {m = 13} {r = q} (omega arith), digits_mod p {m = 13} {r = q} (omega arith)) (simp (lt-ltb p 12 hp, lt-ltb q 12 hq))

at_row : (p : ℕ) → p < 12 → entry_at (grid_place p 12) ≡ RowTotal (p + 1)
at_row p hp = rw (digits_div p {m = 13} {r = 12} (omega arith), digits_mod p {m = 13} {r = 12} (omega arith)) (simp (lt-ltb p 12 hp))

at_column : (q : ℕ) → q < 12 → entry_at (grid_place 12 q) ≡ ColumnTotal (q + 1)
at_column q hq = rw (digits_div 12 {m = 13} {r = q} (omega arith), digits_mod 12 {m = 13} {r = q} (omega arith)) (simp (lt-ltb q 12 hq))

-- a place of the grid at which an entry of the table stands
pub record Stands (r c k : ℕ) : Type 0 where
  pub small : k < 169
  pub places : grid_places r c (k / 13) (k % 13) ≡ places_of r c (entry_at k)

stands_at : (r c p q : ℕ) → p < 13 → q < 13 → (e : Entry) → entry_at (grid_place p q) ≡ e → grid_places r c p q ≡ places_of r c e → Stands r c (grid_place p q)
stands_at r c p q hp hq e is h = record {
  small = omega arith;
  places = ap₂ (grid_places r c) (digits_div p hq) (digits_mod p hq) ∙ h ∙ ap (places_of r c) (sym is);
}

module _ {r c : ℕ} {g : List ℕ} (s : Shape r c g) where
  stands_cell : (k : ℕ) → k < r * c → Stands r c (grid_place (k / c) (k % c))
  stands_cell k h =
      let p = place_of s h in
      let places : grid_places r c (k / c) (k % c) ≡ cell_places ((k / c + 1 - 1) * c + (k % c + 1 - 1)) =
      grid_cell_lem r c (k / c) (k % c) p.row_small p.row p.column_small p.column ∙ rw (back (k / c), back (k % c)) refl in
      stands_at r c (k / c) (k % c) (omega (arith, p.row_small)) (omega (arith, p.column_small)) (Cell (k / c + 1) (k % c + 1))
      (at_cell (k / c) (k % c) p.row_small p.column_small) places

  stands_row : (i : ℕ) → i < r → Stands r c (grid_place i 12)
  stands_row i h =
      let small : i < 12 = omega (arith, s.rows) in
      stands_at r c i 12 (omega arith) (omega arith) (RowTotal (i + 1)) (at_row i small) (grid_row r c i 12 small h (omega arith) ∙ ap (row_places c) (sym (back i)))

  stands_column : (j : ℕ) → j < c → Stands r c (grid_place 12 j)
  stands_column j h =
      let small : j < 12 = omega (arith, s.columns) in
      stands_at r c 12 j (omega arith) (omega arith) (ColumnTotal (j + 1)) (at_column j small)
      (grid_column r c 12 j (omega arith) small h ∙ ap (column_places r c) (sym (back j)))

  pub stands_grand : Stands r c 168
  stands_grand = record { small = omega arith; places = grid_grand r c 12 12 (omega arith) (omega arith) }

  -- at every place of the order of entries one does
  pub order_stands : (k : ℕ) → Member k (grid_order r c) → Stands r c k
  unfolding grid_order
  order_stands k m = ⊎_elim
      (λ a. tabulate_member (Stands r c) (r * c) _ a stands_cell)
      (λ b. ⊎_elim
      (λ a. tabulate_member (Stands r c) r _ a stands_row)
      (λ b. ⊎_elim
      (λ a. tabulate_member (Stands r c) c _ a stands_column)
      (λ a. subst (Stands r c) (sym (Memᴰ.eq_of_singleton a)) stands_grand)
      (Memᴰ.append_cases (tabulate c (λ j. grid_place 12 j)) b))
      (Memᴰ.append_cases (tabulate r (λ i. grid_place i 12)) b))
      (Memᴰ.append_cases (tabulate (r * c) (λ k. grid_place (k / c) (k % c))) m)

  -- the named entries are those at the places of that order
  pub order_names : map entry_at (grid_order r c) ≡ named_entries r c
  unfolding grid_order named_entries
  order_names =
      let cells = tabulate_ext (r * c) (λ k. entry_at (grid_place (k / c) (k % c))) (λ k. Cell (k / c + 1) (k % c + 1))
      (λ k h. let p = place_of s h in at_cell (k / c) (k % c) p.row_small p.column_small) in
      let rows = tabulate_ext r (λ i. entry_at (grid_place i 12)) (λ i. RowTotal (i + 1)) (λ i h. at_row i (omega (arith, s.rows))) in
      let columns = tabulate_ext c (λ j. entry_at (grid_place 12 j)) (λ j. ColumnTotal (j + 1)) (λ j h. at_column j (omega (arith, s.columns))) in
      simp (map-append, map_tabulate, cells, rows, columns)
