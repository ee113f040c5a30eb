-- The counts of a controlled rounding fit 16 bits. Assumes nothing.
use mathlib.Core.Path.{◌≡◌, ap, ◌∙◌}
use mathlib.Core.Bool.{true}
use mathlib.Core.List.{List}
use Prim.Native.Nat.{ℕ, ◌+◌, ◌*◌, ◌<◌, ◌≤◌}
use native.Mathlib.Nat.{div-le_of_le-mul, mul_comm}
use native.Mathlib.Omega.{arith}
use lib.ListN.{get_or}
use Rattle.table.specs.Clauses.{IsTable}
use Rattle.table.proofs.EntryBounds.{cell_at_most}
use Rattle.table.proofs.Roundings.{gap_le, rounds_high}
use Rattle.grid.specs.Clauses.{grid_at, grid_of, Ready}
use Rattle.grid.proofs.GridPlaces.{grid_at_lem}
use Rattle.grid.proofs.GridSums.{cell_at}
use Rattle.grid.proofs.GridBounds.{grid_small}
use Rattle.is_rounding.specs.Rounding.{two_ways, is_rounding}
use Rattle.first_rounding.specs.Clauses.{IsGrid}
use Rattle.first_rounding.proofs.Roundings.{rounding_grid}

module _ {r c d : ℕ} {g : List ℕ} (t : IsTable r c d g) where
  pub table_grid : (e : List ℕ) → e ≡ grid_of r c g → IsGrid e
  table_grid e is = record { rows = r; columns = c; cells = g; shape = t.shape; is = is; small = rw is (grid_small t) }

  -- a count of a controlled rounding fits 16 bits
  pub array_small : (a : List ℕ) → is_rounding (two_ways r c) d g a ≡ true → (i j : ℕ) → i < r → j < c → grid_at r c a i j ≤ 65535
  array_small a h i j hi hj =
      let high = rounds_high d (grid_at r c g i j) (grid_at r c a i j)
      (rounding_grid t.shape d a h i j (omega (arith, t.shape.rows)) (omega (arith, t.shape.columns))) in
      let cell : grid_at r c g i j ≡ get_or g (i * c + j) 0 = cell_at t.shape i j hi hj in
      let bound : grid_at r c g i j ≤ d * 1000 = omega (arith, cell_at_most t (i * c + j), mul_comm d 1000) in
      omega (arith, gap_le d (grid_at r c g i j), div-le_of_le-mul d bound)

  -- the cells of a controlled rounding that is held as a grid can be written
  pub rounding_ready : (a : List ℕ) → is_rounding (two_ways r c) d g a ≡ true → {n : List ℕ} {room at : ℕ} → n ≡ grid_of r c a → at + r * c ≤ room → Ready n r c room at
  rounding_ready a h {n} is fits = record {
    some_columns = t.shape.some_columns;
    columns_small = t.shape.columns;
    rows_small = t.shape.rows;
    fits = fits;
    small = λ i j hi hj.
        let at : get_or n (i * 13 + j) 0 ≡ grid_at r c a i j =
        ap (λ (l : List ℕ). get_or l (i * 13 + j) 0) is ∙ grid_at_lem r c a i j (omega (arith, t.shape.rows)) (omega (arith, t.shape.columns)) in
        omega (arith, array_small a h i j hi hj);
  }
