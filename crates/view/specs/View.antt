-- What the readers of a view answer (specification, "Stored plan, form 1": "An opened plan is a view over the lent bytes"). Assumes nothing.
use Rattle.std.specs.Prelude.{◌≡◌, Bool, cond, ◌&&◌, List, ℕ, ◌+◌, ◌-◌, ◌*◌, ◌<◌, ◌≤◌, get_or, leb, ltb, Option, Some, None, Result, Ok, Err}
use Rattle.table.specs.Table.{max_rows, max_columns}
use Rattle.table.specs.Check.{up_to}
use Rattle.weighted_arrays.specs.Plan.{array_at}
use Rattle.form.specs.Form.{rows_of, columns_of, arrays_of, decode}
use Rattle.view.specs.Find.{found_weight, found_count}
use Rattle.opening.specs.Open.{open_answer}
use Rattle.form.specs.declared.Sizes.{Sizes}
use Rattle.refusals.specs.declared.Refusal.{Refusal}

-- the weight of array k, from 1 on, if there is a plan and it has one
unfoldable pub weight_answer : List ℕ → Result Sizes Refusal → ℕ → Option ℕ
weight_answer b (Ok s) k = cond (up_to s.arrays k) (found_weight b k) None
weight_answer b (Err x) k = None

-- the table has a row p and a column q, both from 0, within the bounds
abbrev pub has_cell : Sizes → ℕ → ℕ → Bool
has_cell s p q = ltb p s.rows && ltb p max_rows && ltb q s.columns && leb s.columns max_columns

-- the count of array k in row p and column q
unfoldable pub count_answer : List ℕ → Result Sizes Refusal → ℕ → ℕ → ℕ → Option ℕ
count_answer b (Ok s) k p q = cond (up_to s.arrays k && has_cell s p q) (found_count b k (p * s.columns + q)) None
count_answer b (Err x) k p q = None

-- the readers find every weight and count of the plan that the bytes hold: arrays from 1 on, rows and columns from 0 on
pub record Readers (b : List ℕ) : Type 0 where
  pub weight : (k : ℕ) → 1 ≤ k → k ≤ arrays_of b
      → weight_answer b (open_answer b) k ≡ Some (array_at (decode b).arrays (k - 1)).weight
  pub count : (k p q : ℕ) → 1 ≤ k → k ≤ arrays_of b → p < rows_of b → q < columns_of b
      → count_answer b (open_answer b) k p q ≡ Some (get_or (array_at (decode b).arrays (k - 1)).counts (p * columns_of b + q) 0)
