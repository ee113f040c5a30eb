-- Where the rounds of an accepted table stand on the grid: at the start, and after one more. Assumes nothing.
use mathlib.Core.Path.{◌≡◌, sym, subst}
use mathlib.Core.Bool.{true}
use mathlib.Core.List.{List, [], ◌∷◌, ◌++◌}
use Prim.Native.Nat.{ℕ, ◌+◌, ◌-◌, ◌≤◌, ◌<◌}
use native.Mathlib.Nat.{mul-le-mul}
use native.Mathlib.Omega.{arith}
use Rattle.base.proofs.Sums.{list_length}
use Rattle.table.specs.Table.{total, entry_places}
use Rattle.table.specs.Whole.{gap}
use Rattle.table.specs.Clauses.{Shape, IsTable}
use Rattle.table.proofs.EntryPlaces.{entries_length}
use Rattle.table.proofs.Roundings.{gap_le}
use Rattle.table.proofs.Sizes.{shape_of}
use Rattle.grid.specs.Clauses.{grid_of}
use Rattle.is_rounding.specs.Rounding.{two_ways, is_rounding}
use Rattle.first_rounding.specs.First.{first_rounding}
use Rattle.first_rounding.proofs.Roundings.{rounding_length}
use Rattle.planning.specs.Rounds.{without, not_whole}
use Rattle.planning.specs.Clauses.{Progress, RoundDone, Reached}
use Rattle.planning.proofs.Progressing.{progress_start, progress_step, array_rounds, next_weight, next_weighted, next_array, low_weight}

pub reached_start : {r c d : ℕ} {g : List ℕ} (e : List ℕ) → IsTable r c d g → e ≡ grid_of r c g → Reached r c d g d 0 e
reached_start {g = g} e t is = record { table = t; rest = g; done = []; progress = progress_start t; grid = is }

pub few_not_whole : {r c : ℕ} → r ≤ 12 → c ≤ 12 → (w : ℕ) (g : List ℕ) → not_whole r c w g ≤ 169
unfolding not_whole
few_not_whole {r} {c} hr hc w g =
    omega (arith, list_length (λ s. gap w (total g s)) (entry_places r c) (λ s. gap_le w (total g s)), entries_length r c, mul-le-mul hr hc)

module _ {r c d : ℕ} {g : List ℕ} {w k : ℕ} {e : List ℕ} (o : Reached r c d g w k e) where
  module _ (wp : 0 < w) where
    pub few_before : k < 170
    few_before = omega (arith, o.progress.few wp, few_not_whole o.table.shape.rows o.table.shape.columns d g)

    pub rounds_table_lem : is_rounding (two_ways r c) d g (first_rounding r c w o.rest) ≡ true
    unfolding next_array
    rounds_table_lem = array_rounds o.progress wp

    pub array_shape : Shape r c (first_rounding r c w o.rest)
    array_shape = shape_of o.table.shape _ (rounding_length o.table.shape d _ rounds_table_lem)

    module _ {a : List ℕ} {x : ℕ} {e' : List ℕ} (u : RoundDone w e a x e') where
      pub weight_is : x ≡ next_weight o.progress wp
      unfolding next_weight
      weight_is = u.weight r c o.rest o.progress.shape o.grid

      pub array_is : a ≡ grid_of r c (first_rounding r c w o.rest)
      array_is = u.array r c o.rest o.progress.shape o.grid

      -- the weight that is left then
      module _ {v : ℕ} (left : v + x ≡ w) where
        pub less_left : v < w
        less_left = omega (arith, weight_is, low_weight o.progress wp)

        unfoldable pub reached_step : Reached r c d g v (k + 1) e'
        unfolding next_weight
        reached_step = record {
          table = o.table;
          rest = without x (first_rounding r c w o.rest) o.rest;
          done = o.done ++ (next_weighted o.progress wp ∷ []);
          progress = let is : v ≡ w - x = omega arith in
              rw is
              (subst (λ (y : ℕ). Progress r c d g (w - y) (k + 1) (without y (first_rounding r c w o.rest) o.rest) (o.done ++ (next_weighted o.progress wp ∷ []))) (sym weight_is) (progress_step o.progress wp));
          grid = u.left r c o.rest o.progress.shape o.grid;
        }
