-- What the loops that write cells keep, and that the cells of a grid are the table's. Assumes nothing.
use mathlib.Core.Path.{◌≡◌, sym, ap, ap₂, ◌∙◌}
use mathlib.Core.List.{List}
use Prim.Native.Nat.{ℕ, ◌+◌, ◌*◌, ◌/◌, ◌%◌, ◌<◌, ◌≤◌}
use Rattle.base.specs.Lists.{tabulate}
use native.Mathlib.Nat.{add-mul, one-mul, mul-le-mul_right}
use native.Mathlib.Omega.{arith}
use lib.Arith.{digits_div, digits_mod}
use lib.ListN.{length, get_or}
use Rattle.base.specs.Clauses.{Filled}
use Rattle.base.proofs.Filling.{filled_join}
use Rattle.base.proofs.Tabulated.{tabulate_get_d}
use Rattle.table.specs.Clauses.{Shape}
use Rattle.table.proofs.Sizes.{place_of}
use Rattle.grid.specs.Clauses.{grid_of, grid_cell, Ready}
use Rattle.grid.proofs.GridPlaces.{grid_at_lem}
use Rattle.grid.proofs.GridSums.{cell_at}

-- one row more
module _ {n : List ℕ} {rows columns at i : ℕ} {old new : List ℕ} (p : Filled (grid_cell n columns) at old new (i * columns))
    (r : Ready n rows columns (length old) at) (h : i < rows) where
  more : i * columns + columns ≤ rows * columns
  more = omega (arith, add-mul i 1 columns, one-mul columns, mul-le-mul_right columns h)

  pub rows_more : (out : List ℕ) → Filled (λ j. get_or n (i * 13 + j) 0) (at + i * columns) new out columns → Filled (grid_cell n columns) at old out ((i + 1) * columns)
  rows_more out f =
      let one : (i + 1) * columns ≡ i * columns + columns = add-mul i 1 columns ∙ ap (λ (x : ℕ). i * columns + x) (one-mul columns) in
      rw one (filled_join p f same)
    where
      same : (k : ℕ) → k < columns → get_or n (i * 13 + k) 0 ≡ grid_cell n columns (i * columns + k)
      same k l = sym (ap₂ (λ (a b : ℕ). get_or n (a * 13 + b) 0) (digits_div i l) (digits_mod i l))

-- the cells of a grid are the list's
pub cell_of_grid : {r c : ℕ} {n : List ℕ} → Shape r c n → (k : ℕ) → k < r * c → grid_cell (grid_of r c n) c k ≡ get_or n k 0
cell_of_grid {r} {c} {n} s k h =
    let p = place_of s h in
    grid_at_lem r c n (k / c) (k % c) (omega (arith, p.row_small)) (omega (arith, p.column_small))
    ∙ cell_at s (k / c) (k % c) p.row p.column
    ∙ ap (λ (i : ℕ). get_or n i 0) p.is

pub cells_of_grid : {r c : ℕ} {n : List ℕ} → Shape r c n → tabulate (r * c) (grid_cell (grid_of r c n) c) ≡ n
cells_of_grid {r} {c} {n} s = tabulate_get_d n (r * c) 0 _ s.cells (cell_of_grid s)
