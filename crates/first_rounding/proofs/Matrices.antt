-- A table and its roundings as matrices with line sums: what is said of rows holds of columns with the indices exchanged. Assumes nothing.
use mathlib.Core.Path.{◌≡◌, refl, sym, ◌∙◌}
use Prim.Native.Nat.{ℕ, ◌+◌, ◌-◌, ◌*◌, ◌%◌, ◌≤◌, ◌<◌}
use native.Mathlib.Decide.{dec_lt}
use native.Mathlib.Omega.{arith}
use Rattle.base.specs.Lists.{sum_to}
use Rattle.table.specs.Whole.{down, gap}
use Rattle.base.proofs.Sums.{sum_ext, sum_add}
use Rattle.table.proofs.Roundings.{rest_le}
use Rattle.first_rounding.specs.Clauses.{kind}
use Rattle.first_rounding.proofs.Lines.{slack, slack_le, cells_need, totals_need, cells_bits, totals_bits, cells_counts, totals_counts}
use Rattle.first_rounding.proofs.PlaceKinds.{kind_swap, kind_of, kind_cell, kind_row, kind_column, kind_grand, sum_cells, sum_totals}

abbrev pub Grid : Type 0
Grid = ℕ → ℕ → ℕ

abbrev pub turned : Grid → Grid
turned e p q = e q p

-- in each row the last number is the sum of the others
pub record LineSums (e : Grid) : Type 0 where
  pub line : (p : ℕ) → p < 13 → e p 12 ≡ sum_to 12 (e p)

-- the need of each row
pub record LineNeeds (w : ℕ) (e : Grid) (n : ℕ → ℕ) : Type 0 where
  pub cells : (p : ℕ) → p < 12 → n p + sum_to 12 (λ q. down w (e p q)) ≡ down w (e p 12) + gap w (e p 12)
  pub totals : n 12 + down w (e 12 12) ≡ sum_to 12 (λ q. down w (e 12 q) + gap w (e 12 q))

-- a row below 12, or the last
pub row_cases : {P : ℕ → Type 0} → ((p : ℕ) → p < 12 → P p) → P 12 → (p : ℕ) → p < 13 → P p
row_cases {P} f t p h = go (dec_lt p 12)
  where
    go : Dec (p < 12) → P p
    go (yes l) = f p l
    go (no l) = let e : p ≡ 12 = omega arith in rw e t

-- remainders at cells and the grand total, slacks at row and column totals
pub share : (w : ℕ) → 0 < w → Grid → Grid
share w wp e p q = kind p q (e p q % w) (slack w wp (e p q))

module _ (w : ℕ) (wp : 0 < w) (e : Grid) where
  pub share_le : (p q : ℕ) → share w wp e p q ≤ w * gap w (e p q)
  unfolding share
  share_le p q = kind_of p q (e p q % w) (slack w wp (e p q)) (λ x. x ≤ w * gap w (e p q)) (rest_le w (e p q) wp) (slack_le w wp (e p q))

  pub share_turned : (p q : ℕ) → share w wp (turned e) q p ≡ share w wp e p q
  unfolding share
  share_turned p q = kind_swap q p _ _

  module _ (s : LineSums e) {n : ℕ → ℕ} (need : LineNeeds w e n) where
    pub share_row : (p : ℕ) → p < 13 → sum_to 13 (λ q. share w wp e p q) ≡ w * n p
    unfolding share
    share_row = row_cases
        (λ p h. sum_cells p h _ _ ∙ cells_need w wp (e p) (e p 12) (s.line p (omega arith)) (n p) (need.cells p h))
        (sum_totals _ _ ∙ totals_need w wp (e 12) (e 12 12) (s.line 12 (omega arith)) (n 12) (need.totals ∙ sum_add 12 _ _))

-- between the whole parts and one more where there is a gap
pub record Between (w : ℕ) (e m : Grid) : Type 0 where
  pub low : (p q : ℕ) → p < 13 → q < 13 → down w (e p q) ≤ m p q
  pub high : (p q : ℕ) → p < 13 → q < 13 → m p q ≤ down w (e p q) + gap w (e p q)

-- the bits of counts
unfoldable pub bits : ℕ → Grid → Grid → Grid
bits w e m p q = kind p q (m p q - down w (e p q)) (down w (e p q) + gap w (e p q) - m p q)

-- the counts of bits
unfoldable pub counts : ℕ → Grid → Grid → Grid
counts w e b p q = kind p q (down w (e p q) + b p q) (down w (e p q) + gap w (e p q) - b p q)

module _ (w : ℕ) (e : Grid) where
  module _ (m : Grid) (bt : Between w e m) where
    pub bits_le : (p q : ℕ) → p < 13 → q < 13 → bits w e m p q ≤ gap w (e p q)
    unfolding bits
    bits_le p q hp hq = kind_of p q _ _ (λ x. x ≤ gap w (e p q)) (omega (arith, bt.high p q hp hq)) (omega (arith, bt.low p q hp hq))

    pub bits_turned : (p q : ℕ) → bits w (turned e) (turned m) q p ≡ bits w e m p q
    unfolding bits
    bits_turned p q = kind_swap q p _ _

    module _ (s : LineSums m) {n : ℕ → ℕ} (need : LineNeeds w e n) where
      pub bits_row : (p : ℕ) → p < 13 → sum_to 13 (λ q. bits w e m p q) ≡ n p
      unfolding bits
      bits_row = row_cases
          (λ p h. sum_cells p h _ _
          ∙ cells_bits (λ q. down w (e p q)) (m p) (λ q l. bt.low p q (omega arith) (omega arith)) (m p 12) (s.line p (omega arith))
          (down w (e p 12) + gap w (e p 12)) (n p) (bt.high p 12 (omega arith) (omega arith)) (need.cells p h))
          (sum_totals _ _
          ∙ totals_bits (λ q. down w (e 12 q) + gap w (e 12 q)) (m 12) (λ q l. bt.high 12 q (omega arith) (omega arith)) (m 12 12) (s.line 12 (omega arith))
          (down w (e 12 12)) (n 12) (bt.low 12 12 (omega arith) (omega arith)) need.totals)

  module _ (b : Grid) (le : (p q : ℕ) → p < 13 → q < 13 → b p q ≤ gap w (e p q)) where
    pub counts_between : Between w e (counts w e b)
    unfolding counts
    counts_between = record {
      low = λ p q hp hq. kind_of p q _ _ (λ x. down w (e p q) ≤ x) (omega arith) (omega (arith, le p q hp hq));
      high = λ p q hp hq. kind_of p q _ _ (λ x. x ≤ down w (e p q) + gap w (e p q)) (omega (arith, le p q hp hq)) (omega arith);
    }

    pub counts_turned : (p q : ℕ) → counts w (turned e) (turned b) q p ≡ counts w e b p q
    unfolding counts
    counts_turned p q = kind_swap q p _ _

    module _ {n : ℕ → ℕ} (row : (p : ℕ) → p < 13 → sum_to 13 (b p) ≡ n p) (need : LineNeeds w e n) where
      pub counts_sums : LineSums (counts w e b)
      unfolding counts sum_to
      counts_sums = record {
        line = row_cases
            (λ p h. kind_row p 12 _ _ h refl
            ∙ cells_counts (λ q. down w (e p q)) (b p) (down w (e p 12) + gap w (e p 12)) (n p) (b p 12)
            (omega (arith, le p 12 (omega arith) (omega arith))) (row p (omega arith)) (need.cells p h)
            ∙ sym (sum_ext 12 (counts w e b p) (λ q. down w (e p q) + b p q) (λ q l. kind_cell p q _ _ h l)))
            (kind_grand 12 12 _ _ refl refl
            ∙ totals_counts (λ q. down w (e 12 q) + gap w (e 12 q)) (b 12) (down w (e 12 12)) (n 12) (b 12 12)
            (λ q l. omega (arith, le 12 q (omega arith) (omega arith))) (row 12 (omega arith)) need.totals
            ∙ sym (sum_ext 12 (counts w e b 12) (λ q. down w (e 12 q) + gap w (e 12 q) - b 12 q) (λ q l. kind_column 12 q _ _ refl l)));
      }

-- two grids with line sums that have the same cells are the same
module _ (m k : Grid) (rm : LineSums m) (cm : LineSums (turned m)) (rk : LineSums k) (ck : LineSums (turned k))
    (same : (p q : ℕ) → p < 12 → q < 12 → m p q ≡ k p q) where
  last_column : (p : ℕ) → p < 12 → m p 12 ≡ k p 12
  last_column p h = rm.line p (omega arith) ∙ sum_ext 12 _ _ (λ q l. same p q h l) ∙ sym (rk.line p (omega arith))

  pub sums_agree : (p q : ℕ) → p < 13 → q < 13 → m p q ≡ k p q
  sums_agree p q hp hq = go (dec_lt p 12) (dec_lt q 12)
    where
      row : (q : ℕ) → q < 13 → m 12 q ≡ k 12 q
      row q l = cm.line q l ∙ sum_ext 12 _ _ (λ p h. go' p h (dec_lt q 12)) ∙ sym (ck.line q l)
        where
          go' : (p : ℕ) → p < 12 → Dec (q < 12) → m p q ≡ k p q
          go' p h (yes x) = same p q h x
          go' p h (no x) = let e : q ≡ 12 = omega arith in rw e (last_column p h)

      go : Dec (p < 12) → Dec (q < 12) → m p q ≡ k p q
      go (yes x) (yes y) = same p q x y
      go (yes x) (no y) = let e : q ≡ 12 = omega arith in rw e (last_column p x)
      go (no x) y = let e : p ≡ 12 = omega arith in rw e (row q hq)
