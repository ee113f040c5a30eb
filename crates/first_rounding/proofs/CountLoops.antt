-- What the loops that store counts keep, and that these are the counts of all places. Assumes nothing.
use mathlib.Core.Path.{◌≡◌, sym, ◌∙◌}
use mathlib.Core.List.{List}
use Prim.Native.Nat.{ℕ, ◌+◌, ◌*◌, ◌/◌, ◌%◌, ◌≤◌, ◌<◌}
use native.Mathlib.Decide.{dec_lt}
use native.Mathlib.Omega.{arith}
use lib.ListN.{get_or}
use Rattle.base.specs.Lists.{tabulate}
use Rattle.base.proofs.Listing.{ListedTo}
use Rattle.base.proofs.Tabulated.{tabulate_get_d}
use Rattle.first_rounding.specs.Clauses.{added_to, taken_off, count_at, Overwritten}
use Rattle.first_rounding.proofs.PlaceKinds.{kind_cell, kind_row, kind_column, kind_grand}

-- the counts of cells and of the grand total everywhere, then those of the row totals and of the column totals over them
module _ (low high b : List ℕ) {filled mid new : List ℕ} {n : ℕ} where
  pub counts_all : ListedTo 169 (added_to low b) filled n → 169 ≤ n
      → Overwritten (taken_off high b) 12 13 filled mid 12 → Overwritten (taken_off high b) 156 1 mid new 12 → new ≡ tabulate 169 (count_at low high b)
  counts_all t all rows columns =
      sym (tabulate_get_d new 169 0 (count_at low high b) (columns.len ∙ rows.len ∙ t.len) (λ k h. sym (part k h (dec_lt (k / 13) 12) (dec_lt (k % 13) 12))))
    where
      part : (k : ℕ) → k < 169 → Dec (k / 13 < 12) → Dec (k % 13 < 12) → get_or new k 0 ≡ count_at low high b k
      part k h (yes p) (yes q) =
          columns.off k (λ i l e. omega arith) ∙ rows.off k (λ i l e. omega arith) ∙ t.is k (omega arith) ∙ sym (kind_cell (k / 13) (k % 13) _ _ p q)
      part k h (yes p) (no q) =
          let e : 12 + k / 13 * 13 ≡ k = omega arith in
          columns.off k (λ i l e. omega arith) ∙ (rw e at (rows.on (k / 13) p)) ∙ sym (kind_row (k / 13) (k % 13) _ _ p (omega arith))
      part k h (no p) (yes q) =
          let e : 156 + k % 13 * 1 ≡ k = omega arith in
          (rw e at (columns.on (k % 13) q)) ∙ sym (kind_column (k / 13) (k % 13) _ _ (omega arith) q)
      part k h (no p) (no q) =
          columns.off k (λ i l e. omega arith) ∙ rows.off k (λ i l e. omega arith) ∙ t.is k (omega arith) ∙ sym (kind_grand (k / 13) (k % 13) _ _ (omega arith) (omega arith))
