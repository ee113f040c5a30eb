-- In the grid each total is the sum of its line: row totals, column totals and the grand total. Assumes nothing.
use mathlib.Core.Path.{◌≡◌, sym, ap, ◌∙◌}
use mathlib.Core.List.{List}
use Prim.Native.Nat.{ℕ, ◌+◌, ◌*◌, ◌<◌, ◌≤◌}
use native.Mathlib.Decide.{dec_lt}
use native.Mathlib.Nat.{mul-one, zero-add}
use native.Mathlib.Omega.{arith}
use lib.ListN.{get_or}
use Rattle.base.specs.Lists.{sum_to}
use Rattle.table.specs.Table.{total}
use Rattle.grid.specs.Clauses.{grid_at}
use Rattle.table.specs.Clauses.{Shape}
use Rattle.base.proofs.Sums.{sum_ext, sum_zero, sum_beyond, sum_rows, sum_swap}
use Rattle.table.proofs.Totals.{total_sum, total_none}
use Rattle.grid.proofs.GridPlaces.{grid_no_row, grid_row, grid_past, grid_cell_lem, grid_column, grid_no_column, grid_grand}

module _ {r c : ℕ} {g : List ℕ} (s : Shape r c g) where
  -- the cells, and 0 beyond them
  pub cell_at : (p q : ℕ) → p < r → q < c → grid_at r c g p q ≡ get_or g (p * c + q) 0
  unfolding grid_at sum_to
  cell_at p q hp hq =
      ap (total g) (grid_cell_lem r c p q (omega (arith, s.rows)) hp (omega (arith, s.columns)) hq)
      ∙ total_sum g 1 _
      ∙ (let e : p * c + q + 0 * 1 ≡ p * c + q = omega arith in rw e (zero-add _))

  pub below_rows : (p q : ℕ) → r ≤ p → p < 12 → grid_at r c g p q ≡ 0
  unfolding grid_at
  below_rows p q h l = ap (total g) (grid_no_row r c p q l h) ∙ total_none g

  pub past_columns : (p q : ℕ) → p < r → c ≤ q → q < 12 → grid_at r c g p q ≡ 0
  unfolding grid_at
  past_columns p q hp h l = ap (total g) (grid_past r c p q (omega (arith, s.rows)) hp l h) ∙ total_none g

  pub no_column : (q : ℕ) → c ≤ q → q < 12 → grid_at r c g 12 q ≡ 0
  unfolding grid_at
  no_column q h l = ap (total g) (grid_no_column r c 12 q (omega arith) l h) ∙ total_none g

  row_at : (p : ℕ) → p < r → grid_at r c g p 12 ≡ sum_to c (λ j. get_or g (p * c + j) 0)
  unfolding grid_at
  row_at p hp =
      ap (total g) (grid_row r c p 12 (omega (arith, s.rows)) hp (omega arith))
      ∙ total_sum g c _
      ∙ sum_ext c _ _ (λ j h. ap (λ (k : ℕ). get_or g (p * c + k) 0) (mul-one j))

  column_at : (q : ℕ) → q < c → grid_at r c g 12 q ≡ sum_to r (λ i. get_or g (i * c + q) 0)
  unfolding grid_at
  column_at q hq =
      ap (total g) (grid_column r c 12 q (omega arith) (omega (arith, s.columns)) hq)
      ∙ total_sum g r _
      ∙ sum_ext r _ _ (λ i h. let e : q + i * c ≡ i * c + q = omega arith in ap (λ (k : ℕ). get_or g k 0) e)

  grand_at : grid_at r c g 12 12 ≡ sum_to r (λ i. sum_to c (λ j. get_or g (i * c + j) 0))
  unfolding grid_at
  grand_at =
      ap (total g) (grid_grand r c 12 12 (omega arith) (omega arith))
      ∙ total_sum g (r * c) _
      ∙ sum_ext (r * c) _ _ (λ k h. let e : 0 + k * 1 ≡ k = omega arith in ap (λ (i : ℕ). get_or g i 0) e)
      ∙ sum_rows r c (λ k. get_or g k 0)

  -- the lines through the cells
  cells_of_row : (p : ℕ) → p < r → sum_to 12 (λ q. grid_at r c g p q) ≡ sum_to c (λ j. get_or g (p * c + j) 0)
  cells_of_row p hp =
      sum_beyond c 12 _ s.columns (λ q h l. past_columns p q hp h l)
      ∙ sum_ext c _ _ (λ j h. cell_at p j hp h)

  cells_of_column : (q : ℕ) → q < c → sum_to 12 (λ p. grid_at r c g p q) ≡ sum_to r (λ i. get_or g (i * c + q) 0)
  cells_of_column q hq =
      sum_beyond r 12 _ s.rows (λ p h l. below_rows p q h l)
      ∙ sum_ext r _ _ (λ i h. cell_at i q h hq)

  pub row_total : (p : ℕ) → p < 12 → grid_at r c g p 12 ≡ sum_to 12 (λ q. grid_at r c g p q)
  row_total p l = go (dec_lt p r)
    where
      go : Dec (p < r) → grid_at r c g p 12 ≡ sum_to 12 (λ q. grid_at r c g p q)
      go (yes h) = row_at p h ∙ sym (cells_of_row p h)
      go (no h) = below_rows p 12 (omega arith) l ∙ sym (sum_ext 12 _ (λ q. 0) (λ q k. below_rows p q (omega arith) l) ∙ sum_zero 12)

  pub column_total : (q : ℕ) → q < 12 → grid_at r c g 12 q ≡ sum_to 12 (λ p. grid_at r c g p q)
  column_total q l = go (dec_lt q c)
    where
      none : c ≤ q → (p : ℕ) → p < 12 → Dec (p < r) → grid_at r c g p q ≡ 0
      none h p k (yes a) = past_columns p q a h l
      none h p k (no a) = below_rows p q (omega arith) k

      go : Dec (q < c) → grid_at r c g 12 q ≡ sum_to 12 (λ p. grid_at r c g p q)
      go (yes h) = column_at q h ∙ sym (cells_of_column q h)
      go (no h) = no_column q (omega arith) l ∙ sym (sum_ext 12 _ (λ p. 0) (λ p k. none (omega arith) p k (dec_lt p r)) ∙ sum_zero 12)

  pub grand_by_rows : grid_at r c g 12 12 ≡ sum_to 12 (λ p. grid_at r c g p 12)
  grand_by_rows =
      grand_at
      ∙ sym (sum_beyond r 12 _ s.rows (λ p h l. below_rows p 12 h l) ∙ sum_ext r _ _ (λ i h. row_at i h))

  pub grand_by_columns : grid_at r c g 12 12 ≡ sum_to 12 (λ q. grid_at r c g 12 q)
  grand_by_columns =
      grand_at
      ∙ sum_swap r c (λ i j. get_or g (i * c + j) 0)
      ∙ sym (sum_beyond c 12 _ s.columns (λ q h l. no_column q h l) ∙ sum_ext c _ _ (λ j h. column_at j h))
