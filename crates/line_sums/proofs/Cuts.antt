-- The cut lemma: where a search is stuck, no matrix of naturals has the lines' sums. Assumes nothing.
use mathlib.Core.Path.{◌≡◌, refl, sym, ap, ◌∙◌}
use mathlib.Core.List.{List}
use Prim.Native.Nat.{ℕ, zero, suc, ◌+◌, ◌*◌, ◌≤◌, ◌<◌}
use native.Mathlib.Nat.{mul-le-mul_left, mul-lt-mul_of_pos_left, mul-zero, mul-one}
use native.Mathlib.Omega.{arith}
use Rattle.base.specs.Lists.{sum_to}
use Rattle.sets.specs.Clauses.{on, has}
use Rattle.paths.specs.Clauses.{Stuck}
use Rattle.line_sums.specs.Clauses.{board_of, Places, row_sum, col_sum, Feasible}
use Rattle.base.proofs.Sums.{sum_ext, sum_le, sum_lt, sum_mul}
use Rattle.line_sums.proofs.DoubleSums.{by_rows, by_cols, sum_both}
use Rattle.sets.proofs.Members.{on_le}

-- 1 where n is 0, else 0
abbrev is_zero : ℕ → ℕ
is_zero zero = 1
is_zero (suc n) = 0

-- the inequality at one place: k and l say whether the row and the column are not reached
point : (w k l u d o x : ℕ) → u + d + o ≤ 1 → x ≤ w → (u + d ≡ 0 → x ≡ w * (d + o)) → l ≤ 1 → k ≤ 1 → u + l ≤ 1 + k → d + k ≤ 1 + l
    → is_zero k * x + is_zero l * (w * (d + o)) ≤ is_zero l * x + is_zero k * (w * (d + o))
point w zero zero u d o x h le f hl hk a b = omega arith
point w (suc k) (suc l) u d o x h le f hl hk a b = omega arith
point w zero (suc l) u zero o x h le f hl hk a b = omega (arith, f (omega arith))
point w zero (suc l) u (suc d) zero x h le f hl hk a b = let e : suc d + 0 ≡ 1 = omega arith in rw (e, mul-one w) (omega arith)
point w zero (suc l) u (suc d) (suc o) x h le f hl hk a b = absurd (omega arith)
point w (suc k) zero u (suc d) o x h le f hl hk a b = absurd (omega arith)
point w (suc k) zero u zero zero x h le f hl hk a b = omega (arith, mul-zero w)
point w (suc k) zero u zero (suc o) x h le f hl hk a b = omega (arith, f (omega arith))

module _ {up down one : List ℕ} {ends start : ℕ} (hs : start < 13) (m : Places up down one) (k : Stuck up down ends start)
    {rows cols : ℕ → ℕ} (s : Feasible (board_of up down one) rows cols)
    (lr : (p : ℕ) → p < 13 → row_sum (board_of up down one) p ≤ rows p) (ls : row_sum (board_of up down one) start < rows start)
    (lc : (q : ℕ) → q < 13 → on ends q ≡ 0 → col_sum (board_of up down one) q ≡ cols q) where
  abbrev w : ℕ
  w = s.w

  abbrev x : ℕ → ℕ → ℕ
  x = s.x

  a : ℕ → ℕ
  a p = is_zero (on k.rows_left p)

  b : ℕ → ℕ
  b q = is_zero (on k.cols_left q)

  bt : ℕ → ℕ → ℕ
  bt p q = has down q p + has one p q

  y : ℕ → ℕ → ℕ
  y p q = w * bt p q

  places : sum_to 13 (λ p. sum_to 13 (λ q. a p * x p q + b q * y p q)) ≤ sum_to 13 (λ p. sum_to 13 (λ q. b q * x p q + a p * y p q))
  unfolding a b y bt
  places =
      sum_le 13 (λ p. sum_to 13 (λ q. a p * x p q + b q * y p q)) (λ p. sum_to 13 (λ q. b q * x p q + a p * y p q))
      (λ p hp. sum_le 13 (λ q. a p * x p q + b q * y p q) (λ q. b q * x p q + a p * y p q)
      (λ q hq. point w (on k.rows_left p) (on k.cols_left q) (has up p q) (has down q p) (has one p q) (x p q) (m.single p q hp hq) (s.flow.le p q hp hq) (s.flow.fixed p q hp hq)
      (on_le k.cols_left q) (on_le k.rows_left p) (k.ups p q hp hq) (k.downs p q hp hq)))

  -- the four sums
  rows_x : sum_to 13 (λ p. sum_to 13 (λ q. a p * x p q)) ≡ sum_to 13 (λ p. a p * (w * rows p))
  rows_x = by_rows 13 13 a x ∙ sum_ext 13 (λ p. a p * sum_to 13 (λ q. x p q)) (λ p. a p * (w * rows p)) (λ p h. ap (λ (n : ℕ). a p * n) (s.flow.row p h))

  rows_y : sum_to 13 (λ p. sum_to 13 (λ q. a p * y p q)) ≡ sum_to 13 (λ p. a p * (w * row_sum (board_of up down one) p))
  unfolding y bt row_sum
  rows_y = by_rows 13 13 a y ∙ sum_ext 13 (λ p. a p * sum_to 13 (λ q. y p q)) (λ p. a p * (w * row_sum (board_of up down one) p)) (λ p h. ap (λ (n : ℕ). a p * n) (sum_mul 13 w (λ q. bt p q)))

  cols_x : sum_to 13 (λ p. sum_to 13 (λ q. b q * x p q)) ≡ sum_to 13 (λ q. b q * (w * cols q))
  cols_x = by_cols 13 13 b x ∙ sum_ext 13 (λ q. b q * sum_to 13 (λ p. x p q)) (λ q. b q * (w * cols q)) (λ q h. ap (λ (n : ℕ). b q * n) (s.flow.col q h))

  cols_y : sum_to 13 (λ p. sum_to 13 (λ q. b q * y p q)) ≡ sum_to 13 (λ q. b q * (w * col_sum (board_of up down one) q))
  unfolding y bt col_sum
  cols_y = by_cols 13 13 b y ∙ sum_ext 13 (λ q. b q * sum_to 13 (λ p. y p q)) (λ q. b q * (w * col_sum (board_of up down one) q)) (λ q h. ap (λ (n : ℕ). b q * n) (sum_mul 13 w (λ p. bt p q)))

  -- a column that is reached lacks nothing
  full : sum_to 13 (λ q. b q * (w * cols q)) ≡ sum_to 13 (λ q. b q * (w * col_sum (board_of up down one) q))
  unfolding b
  full = sum_ext 13 (λ q. b q * (w * cols q)) (λ q. b q * (w * col_sum (board_of up down one) q)) (λ q h. go q h (on k.cols_left q) refl)
    where
      go : (q : ℕ) → q < 13 → (n : ℕ) → on k.cols_left q ≡ n → is_zero (on k.cols_left q) * (w * cols q) ≡ is_zero (on k.cols_left q) * (w * col_sum (board_of up down one) q)
      go q h zero e = let same : cols q ≡ col_sum (board_of up down one) q = sym (lc q h (omega (arith, k.full q h))) in rw same
      go q h (suc n) e = rw e (omega arith)

  -- the start's row lacks something
  less : sum_to 13 (λ p. a p * (w * row_sum (board_of up down one) p)) < sum_to 13 (λ p. a p * (w * rows p))
  unfolding a
  less = sum_lt 13 (λ p. a p * (w * row_sum (board_of up down one) p)) (λ p. a p * (w * rows p)) start hs (go (on k.rows_left start) k.begin)
      (λ p h. mul-le-mul_left (a p) (mul-le-mul_left w (lr p h)))
    where
      go : (n : ℕ) → n ≡ 0 → is_zero n * (w * row_sum (board_of up down one) start) < is_zero n * (w * rows start)
      go zero h = omega (arith, mul-lt-mul_of_pos_left {k = w} ls s.pos)
      go (suc n) h = absurd (omega arith)

  pub cut : ⊥
  cut = omega (arith, places, sum_both 13 13 (λ p q. a p * x p q) (λ p q. b q * y p q), sum_both 13 13 (λ p q. b q * x p q) (λ p q. a p * y p q), rows_x, rows_y, cols_x, cols_y, full, less)
