-- What a plan that opens meets, condition by condition. Assumes nothing.
use mathlib.Core.Path.{◌≡◌}
use mathlib.Core.Bool.{true, ◌&&◌}
use mathlib.Core.List.{List, map}
use Prim.Native.Nat.{ℕ, ◌*◌, ◌<◌, ◌≤◌}
use lib.ListN.{length, get_or}
use lib.Dec.{leb, eqb}
use borrow.Author.Tests.{leb-true, eqb-true}
use Rattle.base.specs.Lists.{sum, all}
use Rattle.base.proofs.Lists.{all_elim, and_left, and_right}
use Rattle.base.proofs.Every.{every_elim}
use Rattle.table.specs.Check.{cells_within}
use Rattle.weighted_arrays.specs.Plan.{Plan}
use Rattle.form.specs.Form.{decode}
use Rattle.opening.specs.Open.{held, weighted, consistent, Opens}
use Rattle.opening.proofs.Opening.{opens_content}

-- the conditions on a plan's contents
pub record Consistent (p : Plan) : Type 0 where
  pub within : (i : ℕ) → i < length p.cells → get_or p.cells i 0 ≤ 1000 * p.denominator
  pub some : all (λ a. leb 1 a.weight) p.arrays ≡ true
  pub weights : sum (map (λ a. a.weight) p.arrays) ≡ p.denominator
  pub rounded : all (held p) p.arrays ≡ true
  pub cells : (i : ℕ) → i < p.rows * p.columns → weighted p.arrays i ≡ get_or p.cells i 0

pub consistent_each : (p : Plan) → consistent p ≡ true → Consistent p
unfolding consistent
consistent_each p h =
    let a = cells_within p.denominator p.cells in
    let b = all (λ x. leb 1 x.weight) p.arrays in
    let c = eqb (sum (map (λ x. x.weight) p.arrays)) p.denominator in
    let d = all (held p) p.arrays in
    let four : (a && b && c && d) ≡ true = and_left (a && b && c && d) _ h in
    let three : (a && b && c) ≡ true = and_left (a && b && c) d four in
    let two : (a && b) ≡ true = and_left (a && b) c three in
    record {
      within = λ i l. leb-true _ _ (all_elim _ p.cells 0 (and_left a b two) i l);
      some = and_right a b two;
      weights = eqb-true _ _ (and_right (a && b) c three);
      rounded = and_right (a && b && c) d four;
      cells = λ i l. eqb-true _ _ (every_elim _ _ (and_right (a && b && c && d) _ h) i l);
    }

module _ (b : List ℕ) (h : Opens b) where
  pub opens_each : Consistent (decode b)
  opens_each = consistent_each (decode b) (opens_content b h)

  pub weights_add_up : sum (map (λ a. a.weight) (decode b).arrays) ≡ (decode b).denominator
  weights_add_up = opens_each.weights
