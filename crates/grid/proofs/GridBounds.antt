-- No entry of an accepted table is above 144 times the largest cell. Assumes nothing.
use mathlib.Core.List.{List}
use Prim.Native.Nat.{ℕ, ◌*◌, ◌/◌, ◌%◌, ◌<◌, ◌≤◌}
use native.Mathlib.Decide.{dec_lt}
use native.Mathlib.Nat.{mul-le-mul}
use native.Mathlib.Omega.{arith}
use lib.ListN.{get_or, get_or-eq_default}
use Rattle.table.specs.Table.{total}
use Rattle.grid.specs.Clauses.{grid_at, grid_of}
use Rattle.table.specs.Clauses.{IsTable, max_entry}
use Rattle.table.proofs.Totals.{total_none}
use Rattle.grid.proofs.GridPlaces.{grid_entry, length_grid}
use Rattle.grid.proofs.GridTests.{grid_each}
use Rattle.table.proofs.EntryBounds.{within_144, cell_at_most}

module _ (g : List ℕ) (b : ℕ) (h : (k : ℕ) → get_or g k 0 ≤ b) where
  pub grid_at_most : (r c : ℕ) → r ≤ 12 → c ≤ 12 → (p q : ℕ) → grid_at r c g p q ≤ 144 * b
  unfolding grid_at
  grid_at_most r c hr hc = grid_each r c (λ s. total g s ≤ 144 * b)
      (omega (arith, total_none g))
      (λ k _. within_144 g b h 1 _ (omega arith))
      (λ i _. within_144 g b h c _ (omega arith))
      (λ j _. within_144 g b h r _ (omega arith))
      (within_144 g b h (r * c) _ (mul-le-mul hr hc))

module _ {r c d : ℕ} {g : List ℕ} (t : IsTable r c d g) where
  pub grid_small : (k : ℕ) → get_or (grid_of r c g) k 0 ≤ max_entry
  grid_small k = go (dec_lt k 169)
    where
      go : Dec (k < 169) → get_or (grid_of r c g) k 0 ≤ max_entry
      go (yes h) =
          let m = grid_at_most g (1000 * d) (cell_at_most t) r c t.shape.rows t.shape.columns (k / 13) (k % 13) in
          omega (arith, grid_entry r c g k h, t.denominator)
      go (no h) = omega (arith, get_or-eq_default (grid_of r c g) 0 {n = k} (omega (arith, length_grid r c g)))
