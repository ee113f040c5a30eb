-- What the loop over the rounds keeps. Assumes nothing.
use mathlib.Core.Path.{◌≡◌, sym, ap, ◌∙◌}
use mathlib.Core.List.{List, [], ◌∷◌, ◌++◌}
use Prim.Native.Nat.{ℕ, ◌+◌, ◌*◌, ◌≤◌, ◌<◌}
use native.Mathlib.Decide.{dec_lt}
use native.Mathlib.Nat.{mul-le-mul, suc-mul}
use native.Mathlib.Omega.{arith}
use lib.Arith.{digits_lt}
use lib.ListN.{length, get_or, set, length-set, get_or-append}
use lib.Seq.{get_or-append_seam}
use mir.Val.{Fits}
use mir.Syntax.{w64}
use Rattle.table.specs.Table.{max_arrays}
use Rattle.grid.specs.Clauses.{grid_of, grid_cell, Ready}
use Rattle.table.specs.Clauses.{IsTable}
use Rattle.base.specs.Clauses.{Filled}
use Rattle.base.proofs.Lists.{each_more}
use Rattle.table.proofs.Sizes.{few_cells}
use Rattle.first_rounding.specs.First.{first_rounding}
use Rattle.grid.proofs.CellWrites.{cell_of_grid}
use Rattle.first_rounding.proofs.Small.{rounding_ready}
use Rattle.weighted_arrays.specs.Plan.{Weighted, array_at}
use Rattle.planning.specs.Clauses.{RoundDone}
use Rattle.planning.proofs.Progressing.{next_weighted, next_array}
use Rattle.planning.proofs.Reaching.{reached_start, few_before, rounds_table_lem, array_shape, weight_is, array_is, reached_step}
use Rattle.plan.specs.Clauses.{max_counts, Gathered}

pub gathered_start : {r c d : ℕ} {g : List ℕ} (e weights counts : List ℕ) → IsTable r c d g → length weights ≡ max_arrays → length counts ≡ max_counts → e ≡ grid_of r c g
    → Gathered r c d g d 0 e weights counts
gathered_start e weights counts t a b is = record {
  reached = reached_start e t is;
  weights_len = a;
  counts_len = b;
  weight_at_is = λ i h. absurd (omega arith);
  count_at_is = λ i j h l. absurd (omega arith);
}

module _ {r c d : ℕ} {g : List ℕ} {w k : ℕ} {e weights counts : List ℕ} (o : Gathered r c d g w k e weights counts) (wp : 0 < w) where
  room : k < 170
  room = few_before o.reached wp

  ends : k * (r * c) + r * c ≤ 24480
  ends = omega (arith, mul-le-mul room (few_cells o.reached.table.shape), suc-mul k (r * c))

  pub weights_scaled : Fits w64 (k * 4)
  weights_scaled = record { fits = omega (arith, room) }

  pub weights_room : k < length weights
  weights_room = omega (arith, room, o.weights_len)

  pub array_counted : Fits w64 (k + 1)
  array_counted = record { fits = omega (arith, room) }

  pub start_fits : Fits w64 (k * (r * c))
  start_fits = record { fits = omega (arith, ends) }

  module _ {a : List ℕ} {x : ℕ} {e' : List ℕ} (u : RoundDone w e a x e') where
    pub array_ready : Ready a r c (length counts) (k * (r * c))
    array_ready = rounding_ready o.reached.table _ (rounds_table_lem o.reached wp) (array_is o.reached wp u) (omega (arith, ends, o.counts_len))

    count_is : (j : ℕ) → j < r * c → grid_cell a c j ≡ get_or (first_rounding r c w o.reached.rest) j 0
    count_is j h = ap (λ (l : List ℕ). grid_cell l c j) (array_is o.reached wp u) ∙ cell_of_grid (array_shape o.reached wp) j h

    -- one array more
    module _ {counts' : List ℕ} (f : Filled (grid_cell a c) (k * (r * c)) counts counts' (r * c)) where
      abbrev done' : List Weighted
      done' = o.reached.done ++ (next_weighted o.reached.progress wp ∷ [])

      at_old : (i : ℕ) → i < k → array_at done' i ≡ array_at o.reached.done i
      at_old i h = get_or-append o.reached.done _ _ i (omega (arith, o.reached.progress.count))

      at_new : array_at done' k ≡ next_weighted o.reached.progress wp
      at_new = ap (λ (j : ℕ). array_at done' j) (sym o.reached.progress.count) ∙ get_or-append_seam o.reached.done _ [] _

      weights' : (i : ℕ) → i < k + 1 → get_or (set weights k x) i 0 ≡ (array_at done' i).weight
      unfolding next_weighted
      weights' = each_more (λ i y. y ≡ (array_at done' i).weight) weights k x (omega (arith, room, o.weights_len))
          (λ i h. o.weight_at_is i h ∙ ap (λ (y : Weighted). y.weight) (sym (at_old i h)))
          (weight_is o.reached wp u ∙ ap (λ (y : Weighted). y.weight) (sym at_new))

      counts_at : (i j : ℕ) → i < k + 1 → j < r * c → get_or counts' (i * (r * c) + j) 0 ≡ get_or (array_at done' i).counts j 0
      unfolding next_weighted next_array
      counts_at i j h l = go (dec_lt i k)
        where
          go : Dec (i < k) → get_or counts' (i * (r * c) + j) 0 ≡ get_or (array_at done' i).counts j 0
          go (yes p) =
              f.before (i * (r * c) + j) (digits_lt p l)
              ∙ o.count_at_is i j p l
              ∙ ap (λ (y : Weighted). get_or y.counts j 0) (sym (at_old i p))
          go (no p) =
              let q : i ≡ k = omega arith in
              rw q (f.inside j l ∙ count_is j l ∙ ap (λ (y : Weighted). get_or y.counts j 0) (sym at_new))

      pub gathered_step : {v : ℕ} → v + x ≡ w → Gathered r c d g v (k + 1) e' (set weights k x) counts'
      unfolding reached_step
      gathered_step left = record {
        reached = reached_step o.reached wp u left;
        weights_len = length-set weights k x ∙ o.weights_len;
        counts_len = f.len ∙ o.counts_len;
        weight_at_is = weights';
        count_at_is = counts_at;
      }
