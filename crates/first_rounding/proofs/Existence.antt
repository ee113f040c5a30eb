-- Every table has a controlled rounding (Cox and Ernst 1982), and so a first one. Assumes nothing.
use Rattle.std.specs.Prelude.{None}
use mathlib.Core.Path.{◌≡◌, ap, ◌∙◌}
use mathlib.Core.Bool.{true, cond}
use mathlib.Core.List.{List}
use Prim.Native.Nat.{ℕ, ◌+◌, ◌-◌, ◌*◌, ◌/◌, ◌%◌, ◌<◌}
use native.Mathlib.Omega.{arith}
use lib.Dec.{eqb}
use lib.ListN.{get_or}
use borrow.Author.Tests.{ne_eqb}
use Rattle.base.specs.Lists.{tabulate, sum_to}
use Rattle.base.proofs.Lists.{length_tabulate, get_d_tabulate}
use Rattle.base.proofs.Sums.{sum_add}
use Rattle.grid.specs.Clauses.{grid_at}
use Rattle.table.specs.Whole.{down, gap}
use Rattle.table.specs.Clauses.{Shape}
use Rattle.table.specs.Check.{table_refusal}
use Rattle.table.proofs.Checks.{passed_all}
use Rattle.table.proofs.Roundings.{gap_le}
use Rattle.line_sums.specs.Clauses.{at, Caps}
use Rattle.line_sums.proofs.Existence.{some_matrix}
use Rattle.is_rounding.specs.Rounding.{two_ways, is_rounding}
use Rattle.first_rounding.specs.First.{IsFirst, first_rounding}
use Rattle.first_rounding.proofs.Lines.{low, high}
use Rattle.first_rounding.proofs.Matrices.{Grid, turned, LineSums, LineNeeds}
use Rattle.first_rounding.proofs.FirstGrids.{grid_rows, grid_columns, solvable, n, n_rounding}
use Rattle.first_rounding.proofs.Roundings.{not_none_first}

-- what each row of a grid with line sums needs
module _ (w : ℕ) (wp : 0 < w) (e : Grid) (s : LineSums e) where
  need : ℕ → ℕ
  need p = cond (eqb p 12) (sum_to 12 (λ q. down w (e 12 q) + gap w (e 12 q)) - down w (e 12 12))
      (down w (e p 12) + gap w (e p 12) - sum_to 12 (λ q. down w (e p q)))

  pub needs : List ℕ
  needs = tabulate 13 need

  needs_at : (p : ℕ) → p < 13 → get_or needs p 0 ≡ need p
  unfolding needs
  needs_at p h = get_d_tabulate 13 need p 0 h

  pub line_needs : LineNeeds w e (λ p. get_or needs p 0)
  unfolding need
  line_needs = record {
    cells = λ p h. rw (needs_at p (omega arith), ne_eqb p 12 (λ x. omega arith)) (omega (arith, low w wp (e p) (e p 12) (s.line p (omega arith))));
    totals = rw (needs_at 12 (omega arith))
        (omega (arith, high w wp (e 12) (e 12 12) (s.line 12 (omega arith)), sum_add 12 (λ q. down w (e 12 q)) (λ q. gap w (e 12 q))));
  }

module _ {r c : ℕ} {g : List ℕ} (s : Shape r c g) {w : ℕ} (wp : 0 < w) where
  abbrev e : Grid
  e = grid_at r c g

  cap : List ℕ
  cap = tabulate 169 (λ k. gap w (e (k / 13) (k % 13)))

  cap_at : (p q : ℕ) → p < 13 → q < 13 → at cap p q ≡ gap w (e p q)
  unfolding cap
  cap_at p q hp hq =
      let a : (p * 13 + q) / 13 ≡ p = omega arith in
      let b : (p * 13 + q) % 13 ≡ q = omega arith in
      get_d_tabulate 169 (λ k. gap w (e (k / 13) (k % 13))) (p * 13 + q) 0 (omega arith)
      ∙ ap (λ (i : ℕ). gap w (e i ((p * 13 + q) % 13))) a ∙ ap (λ (j : ℕ). gap w (e p j)) b

  caps : Caps cap
  unfolding cap
  caps = record { len = length_tabulate 169 _; bit = λ p q hp hq. rw (cap_at p q hp hq) (gap_le w (e p q)) }

  abbrev rows : List ℕ
  rows = needs w wp e (grid_rows s)

  abbrev cols : List ℕ
  cols = needs w wp (turned e) (grid_columns s)

  row_need : LineNeeds w e (λ p. get_or rows p 0)
  row_need = line_needs w wp e (grid_rows s)

  column_need : LineNeeds w (turned e) (λ q. get_or cols q 0)
  column_need = line_needs w wp (turned e) (grid_columns s)

  some_rounding : ((k : List ℕ) → is_rounding (two_ways r c) w g k ≡ true → ⊥) → ⊥
  some_rounding no_one =
      some_matrix caps (solvable s w wp cap rows cols cap_at row_need column_need)
      (λ b f. no_one (n s w wp cap rows cols cap_at row_need column_need b f) (n_rounding s w wp cap rows cols cap_at row_need column_need b f))

  pub first_exists : IsFirst r c w g (first_rounding r c w g)
  first_exists = not_none_first s w some_rounding

-- so of every accepted table
pub accepted_exists : (r c d : ℕ) (g : List ℕ) → table_refusal r c d g ≡ None → IsFirst r c d g (first_rounding r c d g)
accepted_exists r c d g h = let t = passed_all r c d g h in first_exists t.shape t.some_denominator
