-- A stored plan opens just if it meets the stated conditions. Assumes nothing.
use mathlib.Core.Path.{◌≡◌}
use mathlib.Core.Bool.{true}
use mathlib.Core.List.{List}
use Prim.Native.Nat.{ℕ, ◌*◌}
use lib.ListN.{get_or}
use lib.Dec.{leb, eqb}
use borrow.Author.Tests.{leb-true, le-leb, eq-eqb}
use Rattle.base.proofs.Lists.{and_both, all_intro, all_tabulate, all_at_member, all_of_members}
use Rattle.table.specs.Table.{total}
use Rattle.table.specs.Whole.{rounds_to}
use Rattle.weighted_arrays.specs.Plan.{Plan}
use Rattle.form.specs.Form.{decode}
use Rattle.opening.specs.Open.{held_to, held, weighted, consistent, Opens}
use Rattle.opening.proofs.Opening.{opens_layout, opens_by}
use Rattle.opening.proofs.Opens.{opens_each}
use Rattle.demands.specs.Opening.{PlanConditions, Conditions}

meets : (b : List ℕ) → Opens b → Conditions b
meets b o =
    let e = opens_each b o in
    record {
      layout = opens_layout b o;
      plan = record {
        cells = e.within;
        some_weight = λ a m. leb-true 1 a.weight (all_at_member (λ x. leb 1 x.weight) _ e.some m);
        weights = e.weights;
        rounded = λ a m s h. all_at_member _ _ (all_at_member (held (decode b)) _ e.rounded m) h;
        sums = e.cells;
      };
    }

plan_meets : (p : Plan) → PlanConditions p → consistent p ≡ true
unfolding consistent
plan_meets p c =
    and_both
    (and_both
    (and_both
    (and_both
    (all_intro (λ x. leb x (1000 * p.denominator)) p.cells 0 (λ i h. le-leb _ _ (c.cells i h)))
    (all_of_members (λ a. leb 1 a.weight) p.arrays (λ a m. le-leb 1 a.weight (c.some_weight a m))))
    (eq-eqb _ _ c.weights))
    (all_of_members (held p) p.arrays
    (λ a m. all_of_members (λ s. rounds_to p.denominator (total p.cells s) (total a.counts s)) (held_to p.rows p.columns) (c.rounded a m))))
    (all_tabulate (λ i. eqb (weighted p.arrays i) (get_or p.cells i 0)) (p.rows * p.columns) (λ i. i) (λ i h. eq-eqb _ _ (c.sums i h)))

pub opens_just : (b : List ℕ) → (Opens b → Conditions b) × (Conditions b → Opens b)
opens_just b = (meets b, λ c. opens_by b c.layout (plan_meets (decode b) c.plan))
