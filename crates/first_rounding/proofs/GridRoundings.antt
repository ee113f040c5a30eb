-- The rounding of a grid, step by step. Assumes nothing.
use mathlib.Core.Path.{◌≡◌, sym, ◌∙◌}
use mathlib.Core.List.{List}
use Prim.Native.Nat.{ℕ, ◌+◌, ◌*◌, ◌/◌, ◌%◌, ◌<◌}
use native.Mathlib.Nat.{one-mul}
use native.Mathlib.Omega.{arith}
use lib.ListN.{get_or}
use Rattle.base.specs.Lists.{tabulate}
use Rattle.base.proofs.Tabulated.{tabulate_get_d}
use Rattle.grid.specs.Clauses.{grid_at, grid_of}
use Rattle.table.specs.Whole.{down, up, gap}
use Rattle.table.specs.Clauses.{Shape}
use Rattle.grid.proofs.GridPlaces.{grid_at_lem, length_grid}
use Rattle.line_sums.specs.Clauses.{at, Asked, FirstMatrix}
use Rattle.first_rounding.specs.First.{IsFirst, first_rounding}
use Rattle.first_rounding.specs.Clauses.{Quotients, LinesFit, Needs, BitsFit, count_at, IsGrid, RoundedGrid}
use Rattle.first_rounding.proofs.Roundings.{first_is}
use Rattle.first_rounding.proofs.Matrices.{LineNeeds, turned, counts}
use Rattle.first_rounding.proofs.FirstGrids.{grid_rows, grid_columns, solvable, m, n, n_grid, first}
use Rattle.first_rounding.proofs.GridLines.{down_at, up_at, gap_at, down_small, caps, laid_rows, laid_columns, lines_fit, line_needs}

module _ {e : List ℕ} (i : IsGrid e) {w : ℕ} (wp : 0 < w) {low high cap : List ℕ} (t : Quotients w e low high cap) where
  pub rows_fit : LinesFit low high 13 1
  rows_fit = lines_fit wp (laid_rows i.shape i.is t i.small) (grid_rows i.shape)

  pub columns_fit : LinesFit low high 1 13
  columns_fit = lines_fit wp (laid_columns i.shape i.is t i.small) (grid_columns i.shape)

  module _ {rows cols : List ℕ} (nr : Needs low high 13 1 rows) (nc : Needs low high 1 13 cols) where
    -- what the search for bits asks
    pub ready : Asked cap rows cols
    ready = record {
      caps = caps i.shape i.is t i.small;
      solvable = solvable i.shape w wp cap rows cols (gap_at i.shape i.is t i.small)
          (line_needs wp (laid_rows i.shape i.is t i.small) rows nr)
          (line_needs wp (laid_columns i.shape i.is t i.small) cols nc);
    }

    module _ {b : List ℕ} (fm : FirstMatrix cap rows cols b) where
      pub bits_fit : BitsFit low high b
      bits_fit = record {
        small = down_small i.shape i.is t i.small;
        bits = λ k h.
            let q : k % 13 < 13 = omega arith in
            let p : k / 13 < 13 = omega arith in
            let place : k / 13 * 13 + k % 13 ≡ k = omega arith in
            let le = rw (gap_at i.shape i.is t i.small (k / 13) (k % 13) p q, one-mul) at (fm.matrix.le (k / 13) (k % 13) p q) in
            let most = rw place at (up_at i.shape i.is t i.small (k / 13) (k % 13) p q) in
            let bit = rw place at le in
            omega arith;
      }

      -- what comes out, for the table that has these entries
      module _ {out : List ℕ} (o : out ≡ tabulate 169 (count_at low high b)) (r c : ℕ) (g : List ℕ) (s : Shape r c g) (is : e ≡ grid_of r c g) where
        gaps : (p q : ℕ) → p < 13 → q < 13 → at cap p q ≡ gap w (grid_at r c g p q)
        gaps = gap_at s is t i.small

        needs_rows : LineNeeds w (grid_at r c g) (λ p. get_or rows p 0)
        needs_rows = line_needs wp (laid_rows s is t i.small) rows nr

        needs_columns : LineNeeds w (turned (grid_at r c g)) (λ q. get_or cols q 0)
        needs_columns = line_needs wp (laid_columns s is t i.small) cols nc

        array : List ℕ
        array = n s w wp cap rows cols gaps needs_rows needs_columns (at b) fm.matrix

        array_first : IsFirst r c w g array
        unfolding array
        array_first = first s w wp cap rows cols gaps needs_rows needs_columns b fm

        is_array : first_rounding r c w g ≡ array
        is_array = first_is s w array array_first

        same : (k : ℕ) → k < 169 → count_at low high b k ≡ get_or (grid_of r c array) k 0
        unfolding array m counts
        same k h =
            let p : k / 13 < 13 = omega arith in
            let q : k % 13 < 13 = omega arith in
            let place : k / 13 * 13 + k % 13 ≡ k = omega arith in
            let lo : get_or low k 0 ≡ down w (grid_at r c g (k / 13) (k % 13)) = rw place at (down_at s is t i.small (k / 13) (k % 13) p q) in
            let hi : get_or high k 0 ≡ up w (grid_at r c g (k / 13) (k % 13)) = rw place at (up_at s is t i.small (k / 13) (k % 13) p q) in
            let there = grid_at_lem r c array (k / 13) (k % 13) p q ∙ n_grid s w wp cap rows cols gaps needs_rows needs_columns (at b) fm.matrix (k / 13) (k % 13) p q in
            rw (lo, hi) (sym (rw place at there))

        pub rounded : out ≡ grid_of r c (first_rounding r c w g)
        rounded = rw is_array (o ∙ tabulate_get_d (grid_of r c array) 169 0 (count_at low high b) (length_grid r c array) same)

      pub rounded_grid : {out : List ℕ} → out ≡ tabulate 169 (count_at low high b) → RoundedGrid w e out
      rounded_grid o = record { is = rounded o }
