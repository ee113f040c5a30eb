-- When a stored plan opens: the conditions (specification, "Stored plan, form 1"), one by one. Assumes nothing.
use Rattle.std.specs.Prelude.{◌≡◌, true, ℕ, ◌*◌, ◌<◌, ◌≤◌, length, get_or}
use mathlib.Core.List.{List, map, Memᴰ as Member}
use Rattle.base.specs.Lists.{sum}
use Rattle.table.specs.Table.{max_expected, total}
use Rattle.table.specs.Whole.{rounds_to}
use Rattle.weighted_arrays.specs.Plan.{Weighted, Plan, cell_count}
use Rattle.form.specs.Form.{laid_out, decode}
use Rattle.opening.specs.Open.{held_to, weighted}

-- what is asked of the plan that the bytes hold
pub record PlanConditions (p : Plan) : Type 0 where
  -- a cell is at most 1000·D
  pub cells : (i : ℕ) → i < length p.cells → get_or p.cells i 0 ≤ max_expected * p.denominator
  -- no weight is 0, and the weights make up D
  pub some_weight : (a : Weighted) → Member a p.arrays → 1 ≤ a.weight
  pub weights : sum (map (λ a. a.weight) p.arrays) ≡ p.denominator
  -- every array keeps each cell, row total and column total and the grand total at the table's over D, rounded down or up, and whole ones as they are
  pub rounded : (a : Weighted) → Member a p.arrays → (s : List ℕ) → Member s (held_to p.rows p.columns)
      → rounds_to p.denominator (total p.cells s) (total a.counts s) ≡ true
  -- the weighted counts make up each cell of the table
  pub sums : (i : ℕ) → i < cell_count p → weighted p.arrays i ≡ get_or p.cells i 0

-- the bytes are laid out as the form asks, and the plan that they hold meets its conditions
pub record Conditions (b : List ℕ) : Type 0 where
  pub layout : laid_out b ≡ true
  pub plan : PlanConditions (decode b)
