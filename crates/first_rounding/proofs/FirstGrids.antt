-- A matrix of bits gives a controlled rounding, and the first matrix the first of them. Assumes nothing.
use mathlib.Core.Path.{◌≡◌, sym, ap, ◌∙◌}
use mathlib.Core.Bool.{true}
use mathlib.Core.List.{List}
use Prim.Native.Nat.{ℕ, ◌+◌, ◌-◌, ◌*◌, ◌/◌, ◌%◌, ◌≤◌, ◌<◌}
use native.Mathlib.Decide.{dec_lt}
use native.Mathlib.Nat.{div-le_self, zero-mod, one-mul}
use native.Mathlib.Omega.{arith}
use lib.Arith.{digits_lt, digits_div, digits_mod}
use lib.ListN.{get_or}
use Rattle.base.specs.Lists.{tabulate}
use Rattle.grid.specs.Clauses.{grid_at}
use Rattle.table.specs.Whole.{down, gap}
use Rattle.table.specs.Clauses.{Shape}
use Rattle.base.proofs.Lists.{length_tabulate, get_d_tabulate}
use Rattle.base.proofs.Sums.{sum_ext}
use Rattle.grid.proofs.GridSums.{cell_at, below_rows, past_columns, row_total, column_total, grand_by_rows, grand_by_columns}
use Rattle.cell_order.specs.Order.{nth_row, nth_column, rank}
use Rattle.cell_order.proofs.Ranks.{nth_row_lem, nth_column_lem, nth_rank, rank_below, rank_row, rank_column, rank_less}
use Rattle.table.proofs.Sizes.{shape_of}
use Rattle.table.proofs.Roundings.{gap_whole, rounds, rounds_low, rounds_high}
use Rattle.line_sums.specs.Clauses.{at, Matrix, Solvable, nth_cell, FirstMatrix}
use Rattle.is_rounding.specs.Rounding.{two_ways, is_rounding}
use Rattle.first_rounding.specs.First.{IsFirst}
use Rattle.first_rounding.proofs.Orders.{DiffersAt, before_at}
use Rattle.first_rounding.proofs.Roundings.{rounding_length, rounding_grid, grid_rounding}
use Rattle.first_rounding.proofs.PlaceKinds.{kind_cell}
use Rattle.first_rounding.proofs.Matrices.{Grid, turned, row_cases, LineSums, LineNeeds, Between, share, share_le, share_turned, share_row, bits, bits_le, bits_turned, bits_row, counts, counts_between, counts_turned, counts_sums, sums_agree}

-- the lines of a table's grid
module _ {r c : ℕ} {g : List ℕ} (s : Shape r c g) where
  pub grid_rows : LineSums (grid_at r c g)
  grid_rows = record { line = row_cases (row_total s) (grand_by_columns s) }

  pub grid_columns : LineSums (turned (grid_at r c g))
  grid_columns = record { line = row_cases (column_total s) (grand_by_rows s) }

  -- 0 outside the cells
  outside : (p q : ℕ) → p < 12 → q < 12 → (p < r → q < c → ⊥) → grid_at r c g p q ≡ 0
  outside p q hp hq n = go (dec_lt p r) (dec_lt q c)
    where
      go : Dec (p < r) → Dec (q < c) → grid_at r c g p q ≡ 0
      go (yes x) (yes y) = absurd (n x y)
      go (yes x) (no y) = past_columns s p q x (omega arith) hq
      go (no x) y = below_rows s p q (omega arith) hp

module _ {r c : ℕ} {g : List ℕ} (s : Shape r c g) (w : ℕ) (wp : 0 < w) (cap rows cols : List ℕ)
    (caps : (p q : ℕ) → p < 13 → q < 13 → at cap p q ≡ gap w (grid_at r c g p q))
    (row_need : LineNeeds w (grid_at r c g) (λ p. get_or rows p 0)) (col_need : LineNeeds w (turned (grid_at r c g)) (λ q. get_or cols q 0)) where
  abbrev e : Grid
  e = grid_at r c g

  -- the table itself is a matrix over w: a controlled rounding exists (Cox and Ernst 1982)
  pub solvable : Solvable cap rows cols
  solvable = record {
    w = w;
    pos = wp;
    x = share w wp e;
    matrix = record {
      le = λ p q hp hq. rw (caps p q hp hq) (share_le w wp e p q);
      row = share_row w wp e (grid_rows s) row_need;
      col = λ q hq.
          sum_ext 13 (λ p. share w wp e p q) (λ p. share w wp (turned e) q p) (λ p h. sym (share_turned w wp e p q))
          ∙ share_row w wp (turned e) (grid_columns s) col_need q hq;
    };
  }

  -- the bits of any counts between are a matrix of 0 and 1
  matrix_of : (m : Grid) → LineSums m → LineSums (turned m) → Between w e m → Matrix 1 cap rows cols (bits w e m)
  matrix_of m rm cm bt = record {
    le = λ p q hp hq. rw (caps p q hp hq, one-mul) (bits_le w e m bt p q hp hq);
    row = λ p hp. bits_row w e m bt rm row_need p hp ∙ sym (one-mul _);
    col = λ q hq.
        sum_ext 13 (λ p. bits w e m p q) (λ p. bits w (turned e) (turned m) q p) (λ p h. sym (bits_turned w e m bt p q))
        ∙ bits_row w (turned e) (turned m) (record { low = λ p q hp hq. bt.low q p hq hp; high = λ p q hp hq. bt.high q p hq hp }) cm col_need q hq
        ∙ sym (one-mul _);
  }

  -- and a matrix of 0 and 1 gives a controlled rounding
  module _ (b : Grid) (f : Matrix 1 cap rows cols b) where
    le : (p q : ℕ) → p < 13 → q < 13 → b p q ≤ gap w (e p q)
    le p q hp hq = omega (arith, f.le p q hp hq, caps p q hp hq)

    unfoldable pub m : Grid
    m = counts w e b

    m_rows : LineSums m
    unfolding m
    m_rows = counts_sums w e b le (λ p hp. f.row p hp ∙ one-mul _) row_need

    m_columns : LineSums (turned m)
    unfolding m
    m_columns =
        let t = counts_sums w (turned e) (turned b) (λ p q hp hq. le q p hq hp) (λ q hq. f.col q hq ∙ one-mul _) col_need in
        let same : (p q : ℕ) → counts w (turned e) (turned b) q p ≡ counts w e b p q = counts_turned w e b le in
        record { line = λ q hq. sym (same 12 q) ∙ t.line q hq ∙ sum_ext 12 _ _ (λ p h. same p q) }

    m_between : Between w e m
    unfolding m
    m_between = counts_between w e b le

    pub n : List ℕ
    n = tabulate (r * c) (λ k. m (k / c) (k % c))

    n_shape : Shape r c n
    unfolding n
    n_shape = shape_of s n (length_tabulate (r * c) _)

    n_at : (p q : ℕ) → p < r → q < c → get_or n (p * c + q) 0 ≡ m p q
    unfolding n
    n_at p q hp hq =
        get_d_tabulate (r * c) _ (p * c + q) 0 (digits_lt hp hq)
        ∙ ap (λ (i : ℕ). m i ((p * c + q) % c)) (digits_div p hq)
        ∙ ap (λ (j : ℕ). m p j) (digits_mod p hq)

    -- nothing stands outside the cells
    m_outside : (p q : ℕ) → p < 12 → q < 12 → (p < r → q < c → ⊥) → m p q ≡ 0
    m_outside p q hp hq not-cell =
        let z : e p q ≡ 0 = outside s p q hp hq not-cell in
        let h = m_between.high p q (omega arith) (omega arith) in
        let d : down w (e p q) ≤ 0 = rw z (div-le_self 0 w) in
        let k : gap w (e p q) ≡ 0 = gap_whole w (e p q) (rw z (zero-mod w)) in
        omega arith

    cells_same : (p q : ℕ) → p < 12 → q < 12 → grid_at r c n p q ≡ m p q
    cells_same p q hp hq = go (dec_lt p r) (dec_lt q c)
      where
        go : Dec (p < r) → Dec (q < c) → grid_at r c n p q ≡ m p q
        go (yes x) (yes y) = cell_at n_shape p q x y ∙ n_at p q x y
        go (yes x) (no y) = outside n_shape p q hp hq (λ _ z. y z) ∙ sym (m_outside p q hp hq (λ _ z. y z))
        go (no x) y = outside n_shape p q hp hq (λ z _. x z) ∙ sym (m_outside p q hp hq (λ z _. x z))

    pub n_grid : (p q : ℕ) → p < 13 → q < 13 → grid_at r c n p q ≡ m p q
    n_grid = sums_agree (grid_at r c n) m (grid_rows n_shape) (grid_columns n_shape) m_rows m_columns cells_same

    pub n_rounding : is_rounding (two_ways r c) w g n ≡ true
    n_rounding = grid_rounding s w n n_shape.cells
        (λ p q hp hq. rw (n_grid p q hp hq) (rounds w (e p q) (m p q) (m_between.low p q hp hq) (m_between.high p q hp hq)))

    -- if the matrix is the first, a rounding that comes before this one would be a matrix with a smaller bit
    module _ (least : (x : Grid) → Matrix 1 cap rows cols x → (i : ℕ) → i < 144 → ((l : ℕ) → l < i → nth_cell x l ≡ nth_cell b l) → nth_cell b i ≤ nth_cell x i)
        (k : List ℕ) (h : is_rounding (two_ways r c) w g k ≡ true) where
      k_shape : Shape r c k
      k_shape = shape_of s k (rounding_length s w k h)

      k_between : Between w e (grid_at r c k)
      k_between = record {
        low = λ p q hp hq. rounds_low w (e p q) (grid_at r c k p q) (rounding_grid s w k h p q hp hq);
        high = λ p q hp hq. rounds_high w (e p q) (grid_at r c k p q) (rounding_grid s w k h p q hp hq);
      }

      k_bits : Grid
      k_bits = bits w e (grid_at r c k)

      k_matrix : Matrix 1 cap rows cols k_bits
      unfolding k_bits
      k_matrix = matrix_of (grid_at r c k) (grid_rows k_shape) (grid_columns k_shape) k_between

      k_bit : (p q : ℕ) → p < 12 → q < 12 → k_bits p q ≡ grid_at r c k p q - down w (e p q)
      unfolding k_bits bits
      k_bit p q hp hq = kind_cell p q _ _ hp hq

      m_count : (p q : ℕ) → p < 12 → q < 12 → m p q ≡ down w (e p q) + b p q
      unfolding m counts
      m_count p q hp hq = kind_cell p q _ _ hp hq

      module _ (d : DiffersAt r c k n) where
        abbrev row : ℕ
        row = d.row

        abbrev column : ℕ
        column = d.column

        row_below : row < 12
        row_below = omega (arith, d.row_inside, s.rows)

        column_below : column < 12
        column_below = omega (arith, d.column_inside, s.columns)

        -- the cells before this one, in the grid's order, are the same
        counts_same : (p q : ℕ) → p < 12 → q < 12 → rank 12 12 p q < rank 12 12 row column → grid_at r c k p q ≡ m p q
        counts_same p q hp hq l = go (dec_lt p r) (dec_lt q c)
          where
            go : Dec (p < r) → Dec (q < c) → grid_at r c k p q ≡ m p q
            go (yes x) (yes y) =
                cell_at k_shape p q x y
                ∙ d.same p q x y (rank_less x y s.rows s.columns d.row_inside d.column_inside l)
                ∙ n_at p q x y
            go (yes x) (no y) = outside k_shape p q hp hq (λ _ z. y z) ∙ sym (m_outside p q hp hq (λ _ z. y z))
            go (no x) y = outside k_shape p q hp hq (λ z _. x z) ∙ sym (m_outside p q hp hq (λ z _. x z))

        bits_same : (i : ℕ) → i < rank 12 12 row column → nth_cell k_bits i ≡ nth_cell b i
        bits_same i l =
            let h : i < 144 = omega (arith, rank_below row_below column_below) in
            let hp : nth_row 12 12 i < 12 = nth_row_lem (omega arith) (omega arith) i h in
            let hq : nth_column 12 12 i < 12 = nth_column_lem (omega arith) (omega arith) i h in
            let is : rank 12 12 (nth_row 12 12 i) (nth_column 12 12 i) ≡ i = nth_rank (omega arith) (omega arith) i h in
            omega (arith, counts_same _ _ hp hq (omega arith), k_bit _ _ hp hq, m_count _ _ hp hq)

        contradiction : ⊥
        contradiction =
            let low = least k_bits k_matrix (rank 12 12 row column) (rank_below row_below column_below) bits_same in
            let z : b row column ≤ k_bits row column = rw (rank_row row_below column_below, rank_column row_below column_below) at low in
            let kc : grid_at r c k row column ≡ get_or k (row * c + column) 0 = cell_at k_shape row column d.row_inside d.column_inside in
            let nc : get_or n (row * c + column) 0 ≡ m row column = n_at row column d.row_inside d.column_inside in
            omega (arith, d.less, k_bit row column row_below column_below, m_count row column row_below column_below, k_between.low row column (omega arith) (omega arith))

  pub first : (b : List ℕ) (f : FirstMatrix cap rows cols b) → IsFirst r c w g (n (at b) f.matrix)
  first b f = record {
    rounding = n_rounding (at b) f.matrix;
    first = λ k h bf. contradiction (at b) f.matrix f.first k h (before_at s k (n (at b) f.matrix) bf);
  }
