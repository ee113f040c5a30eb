-- A plan that a caller holds in buffers of weights and counts. Assumes nothing.
use Rattle.std.specs.Prelude.{List, ℕ, zero, suc, ◌+◌, ◌*◌, ◌≤◌, length, get_or}
use Rattle.base.specs.Lists.{tabulate, join_to}
use Rattle.table.specs.Table.{max_arrays}
use Rattle.table.specs.Clauses.{Shape}
use Rattle.form.specs.declared.Sizes.{Sizes}
use Rattle.weighted_arrays.specs.Plan.{Weighted, Plan}
use Rattle.byte_numbers.specs.Bytes.{bytes}
use Rattle.form.specs.Form.{body_at, plan_length, contents_entry}
use Rattle.form.specs.Clauses.{Bounded}

-- the plan that a caller holds in buffers: k weights, and the counts of the arrays one after another
abbrev pub buffered_array : ℕ → List ℕ → List ℕ → ℕ → Weighted
buffered_array n weights counts i = record { weight = get_or weights i 0; counts = tabulate n (λ j. get_or counts (i * n + j) 0) }

abbrev pub buffered_plan : Sizes → List ℕ → List ℕ → List ℕ → Plan
buffered_plan s g weights counts = record {
  rows = s.rows;
  columns = s.columns;
  denominator = s.denominator;
  cells = g;
  arrays = tabulate s.arrays (buffered_array (s.rows * s.columns) weights counts);
}

-- the number beside the offset in entry i of the contents
abbrev pub buffered_amount : ℕ → List ℕ → ℕ → ℕ
buffered_amount d weights zero = d
buffered_amount d weights (suc i) = get_or weights i 0

-- entry i of the contents
abbrev pub buffered_entry : Sizes → List ℕ → ℕ → List ℕ
buffered_entry s weights i = contents_entry (buffered_amount s.denominator weights i) (body_at s.rows s.columns s.arrays i)

-- numbers of n bytes each
abbrev pub numbers : ℕ → ℕ → List ℕ → List ℕ
numbers n count l = join_to count (λ i. bytes n (get_or l i 0))

-- the contents of a plan in buffers, and room for them
pub record Listed (s : Sizes) (weights plan : List ℕ) : Type 0 where
  pub sizes : Bounded s.rows s.columns s.arrays
  pub weighed : s.arrays ≤ length weights
  pub room : 8 + 8 * (s.arrays + 1) ≤ length plan

-- a plan in buffers, and room for its bytes
pub record Writable (s : Sizes) (g weights counts plan : List ℕ) : Type 0 where
  pub shape : Shape s.rows s.columns g
  pub some_arrays : 1 ≤ s.arrays
  pub arrays : s.arrays ≤ max_arrays
  pub weighed : s.arrays ≤ length weights
  pub counted : s.arrays * (s.rows * s.columns) ≤ length counts
  pub room : plan_length s.rows s.columns s.arrays ≤ length plan
