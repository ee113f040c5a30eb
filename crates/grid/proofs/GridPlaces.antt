-- What stands at each place of the grid. Assumes nothing.
use mathlib.Core.Path.{◌≡◌, sym, ap, ◌∙◌}
use mathlib.Core.List.{List, []}
use Prim.Native.Nat.{ℕ, ◌+◌, ◌*◌, ◌/◌, ◌%◌, ◌<◌, ◌≤◌}
use native.Mathlib.Omega.{arith}
use lib.Arith.{digits_div, digits_mod}
use lib.ListN.{length, get_or}
use borrow.Author.Tests.{lt-ltb, le-ltb}
use Rattle.table.specs.Table.{total, cell_places, row_places, column_places, all_places}
use Rattle.grid.specs.Clauses.{grid_places, grid_at, grid_of}
use Rattle.base.proofs.Lists.{length_tabulate, get_d_tabulate}
use Rattle.table.proofs.Totals.{total_none}

-- the cells that stand at each kind of place of the grid
module _ (r c p q : ℕ) where
  module _ (hp : p < 12) where
    pub grid_no_row : r ≤ p → grid_places r c p q ≡ []
    unfolding grid_places
    grid_no_row h = simp (lt-ltb p 12 hp, le-ltb p r h)

    module _ (hr : p < r) where
      pub grid_row : 12 ≤ q → grid_places r c p q ≡ row_places c p
      unfolding grid_places
      grid_row h = simp (lt-ltb p 12 hp, lt-ltb p r hr, le-ltb q 12 h)

      pub grid_past : q < 12 → c ≤ q → grid_places r c p q ≡ []
      unfolding grid_places
      grid_past h k = simp (lt-ltb p 12 hp, lt-ltb p r hr, lt-ltb q 12 h, le-ltb q c k)

      pub grid_cell_lem : q < 12 → q < c → grid_places r c p q ≡ cell_places (p * c + q)
      unfolding grid_places
      grid_cell_lem h k = simp (lt-ltb p 12 hp, lt-ltb p r hr, lt-ltb q 12 h, lt-ltb q c k)

  module _ (hp : 12 ≤ p) where
    pub grid_column : q < 12 → q < c → grid_places r c p q ≡ column_places r c q
    unfolding grid_places
    grid_column h k = simp (le-ltb p 12 hp, lt-ltb q 12 h, lt-ltb q c k)

    pub grid_no_column : q < 12 → c ≤ q → grid_places r c p q ≡ []
    unfolding grid_places
    grid_no_column h k = simp (le-ltb p 12 hp, lt-ltb q 12 h, le-ltb q c k)

    pub grid_grand : 12 ≤ q → grid_places r c p q ≡ all_places r c
    unfolding grid_places
    grid_grand h = simp (le-ltb p 12 hp, le-ltb q 12 h)

pub grid_none : (r c : ℕ) (g : List ℕ) (p q : ℕ) → grid_places r c p q ≡ [] → 0 ≡ grid_at r c g p q
unfolding grid_at
grid_none r c g p q e = sym (ap (total g) e ∙ total_none g)

pub grid_total : (r c : ℕ) (g : List ℕ) (p q : ℕ) (s : List ℕ) (x : ℕ) → grid_places r c p q ≡ s → x ≡ total g s → x ≡ grid_at r c g p q
unfolding grid_at
grid_total r c g p q s x e h = h ∙ ap (total g) (sym e)

pub grid_at_lem : (r c : ℕ) (g : List ℕ) (p q : ℕ) → p < 13 → q < 13 → get_or (grid_of r c g) (p * 13 + q) 0 ≡ grid_at r c g p q
unfolding grid_of
grid_at_lem r c g p q hp hq =
    get_d_tabulate 169 _ (p * 13 + q) 0 (omega arith)
    ∙ ap (λ (i : ℕ). grid_at r c g i ((p * 13 + q) % 13)) (digits_div p hq)
    ∙ ap (λ (j : ℕ). grid_at r c g p j) (digits_mod p hq)

pub grid_entry : (r c : ℕ) (g : List ℕ) (k : ℕ) → k < 169 → get_or (grid_of r c g) k 0 ≡ grid_at r c g (k / 13) (k % 13)
unfolding grid_of
grid_entry r c g k h = get_d_tabulate 169 _ k 0 h

pub length_grid : (r c : ℕ) (g : List ℕ) → length (grid_of r c g) ≡ 169
unfolding grid_of
length_grid r c g = length_tabulate 169 _
