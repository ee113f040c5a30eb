-- How large the counts of a plan that opens are, and their products. Assumes nothing.
use mathlib.Core.Path.{◌≡◌, sym, ◌∙◌}
use mathlib.Core.Bool.{true}
use mathlib.Core.List.{List, [], ◌∷◌, map, Memᴰ as Member}
use Prim.Native.Nat.{ℕ, ◌*◌, ◌/◌, ◌%◌, ◌<◌, ◌≤◌}
use native.Mathlib.Decide.{ℕ_discrete}
use native.Mathlib.Nat.{mul_comm, mul-add, mul-zero, mul_assoc, mul-le-mul_right, le_of_mul-le-mul_right, lt_of_mul-lt-mul_right, le_trans, div-add-mod'}
use native.Mathlib.Omega.{arith}
use lib.ListN.{get_or}
use Rattle.base.specs.Lists.{sum}
use Rattle.base.proofs.Lists.{all_at_member}
use Rattle.base.proofs.Sums.{list_le}
use Rattle.table.specs.Table.{total, cell_places}
use Rattle.table.specs.Whole.{up, rounds_to}
use Rattle.table.proofs.Roundings.{rounds_high, gap_whole, gap_part}
use Rattle.table.proofs.Totals.{total_cell}
use Rattle.table.proofs.EntryTests.{entries_each}
use Rattle.weighted_arrays.specs.Plan.{Weighted, Plan, cell_count}
use Rattle.opening.specs.Open.{held}
use Rattle.opening.proofs.Sound.{Sound, weighted_cell}
use Rattle.covariances.specs.Covariance.{at, weighted_products}

-- an entry over w that is at most k times w is at most k, rounded up too
up_most : (w e k : ℕ) → 0 < w → e ≤ k * w → up w e ≤ k
up_most w e k wp h = go (ℕ_discrete (e % w) 0)
  where
    go : Dec (e % w ≡ 0) → up w e ≤ k
    go (yes z) =
        let l : e / w * w ≤ k * w = omega (arith, div-add-mod' e w) in
        omega (arith, gap_whole w e z, le_of_mul-le-mul_right l wp)
    go (no z) =
        let l : e / w * w < k * w = omega (arith, div-add-mod' e w) in
        omega (arith, gap_part w e z, lt_of_mul-lt-mul_right w l)

-- a factor before a sum
list_mul {ℓ} : {A : Type ℓ} (k : ℕ) (f : A → ℕ) (l : List A) → sum (map (λ x. k * f x) l) ≡ k * sum (map f l)
unfolding sum
list_mul k f [] = sym (mul-zero k)
list_mul k f (x ∷ l) = omega (arith, list_mul k f l, mul-add k (f x) (sum (map f l)))

-- a plan that opens
module _ {p : Plan} (o : Sound p) (some : 0 < p.denominator) where
  abbrev d : ℕ
  d = p.denominator

  -- each count of an array is its cell rounded down or up
  pub cell_entry : (a : Weighted) → Member a p.arrays → (i : ℕ) → i < cell_count p
      → rounds_to d (total p.cells (cell_places i)) (total a.counts (cell_places i)) ≡ true
  cell_entry a m i h = (entries_each p.rows p.columns _ (all_at_member (held p) _ o.meets.rounded m)).cells i h

  -- and at most 1000
  pub count_most : (a : Weighted) → Member a p.arrays → (i : ℕ) → i < cell_count p → get_or a.counts i 0 ≤ 1000
  count_most a m i h =
      let e = get_or p.cells i 0 in
      let rounds = rw (total_cell p.cells i, total_cell a.counts i) at (cell_entry a m i h) in
      le_trans (rounds_high d e _ rounds) (up_most d e 1000 some (o.meets.within i (omega (arith, o.cells))))

  -- so the products of two cells' counts times the weights are at most 1000 times the one cell, and that a million times D
  pub products_most : (i j : ℕ) → i < cell_count p → j < cell_count p → weighted_products p.arrays (at i) (at j) ≤ 1000000 * d
  products_most i j h k =
      let l = p.arrays in
      let each : weighted_products l (at i) (at j) ≤ sum (map (λ a. 1000 * (a.weight * get_or a.counts i 0)) l) =
      list_le _ _ l (λ a m.
      let x = get_or a.counts i 0 in
      let y = get_or a.counts j 0 in
      let same : a.weight * (x * y) ≡ y * (a.weight * x) = sym (mul_assoc a.weight x y) ∙ mul_comm (a.weight * x) y in
      omega (arith, mul-le-mul_right (a.weight * x) (count_most a m j k))) in
      omega (arith, each, list_mul 1000 (λ (a : Weighted). a.weight * get_or a.counts i 0) l, weighted_cell o i, o.meets.within i (omega (arith, o.cells)))
