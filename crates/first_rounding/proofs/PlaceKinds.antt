-- Cells and the grand total on one side, totals of rows and columns on the other. Assumes nothing.
use mathlib.Core.Path.{◌≡◌, refl, sym}
use mathlib.Core.Bool.{Bool, true, false, cond}
use Prim.Native.Nat.{ℕ, ◌+◌, ◌<◌}
use native.Mathlib.Omega.{arith}
use lib.Dec.{eqb}
use borrow.Author.Tests.{eq-eqb, ne_eqb}
use Rattle.base.specs.Lists.{sum_to}
use Rattle.base.proofs.Sums.{sum_ext}
use Rattle.first_rounding.specs.Clauses.{kind}

module _ (p q a b : ℕ) where
  pub kind_swap : kind p q a b ≡ kind q p a b
  unfolding kind
  kind_swap = go (eqb p 12) (eqb q 12)
    where
      go : (x y : Bool) → cond x (cond y a b) (cond y b a) ≡ cond y (cond x a b) (cond x b a)
      go true true = refl
      go true false = refl
      go false true = refl
      go false false = refl

  -- what holds of both numbers holds of the one
  pub kind_of : (P : ℕ → Type 0) → P a → P b → P (kind p q a b)
  unfolding kind
  kind_of P x y = go (eqb p 12) (eqb q 12)
    where
      go : (u v : Bool) → P (cond u (cond v a b) (cond v b a))
      go true true = x
      go true false = y
      go false true = y
      go false false = x

  module _ (hp : p < 12) where
    pub kind_cell : q < 12 → kind p q a b ≡ a
    unfolding kind
    kind_cell hq = simp (ne_eqb p 12 (omega arith), ne_eqb q 12 (omega arith))

    pub kind_row : 12 ≡ q → kind p q a b ≡ b
    unfolding kind
    kind_row hq = simp (ne_eqb p 12 (omega arith), eq-eqb q 12 (sym hq))

  module _ (hp : 12 ≡ p) where
    pub kind_column : q < 12 → kind p q a b ≡ b
    unfolding kind
    kind_column hq = simp (eq-eqb p 12 (sym hp), ne_eqb q 12 (omega arith))

    pub kind_grand : 12 ≡ q → kind p q a b ≡ a
    unfolding kind
    kind_grand hq = simp (eq-eqb p 12 (sym hp), eq-eqb q 12 (sym hq))

-- the sum of a line of cells, and of the line of totals
pub sum_cells : (p : ℕ) → p < 12 → (a b : ℕ → ℕ) → sum_to 13 (λ q. kind p q (a q) (b q)) ≡ sum_to 12 a + b 12
unfolding sum_to
sum_cells p h a b =
    let e : sum_to 12 (λ q. kind p q (a q) (b q)) ≡ sum_to 12 a = sum_ext 12 _ a (λ q l. kind_cell p q (a q) (b q) h l) in
    let t : kind p 12 (a 12) (b 12) ≡ b 12 = kind_row p 12 (a 12) (b 12) h refl in
    omega arith

pub sum_totals : (a b : ℕ → ℕ) → sum_to 13 (λ q. kind 12 q (a q) (b q)) ≡ sum_to 12 b + a 12
unfolding sum_to
sum_totals a b =
    let e : sum_to 12 (λ q. kind 12 q (a q) (b q)) ≡ sum_to 12 b = sum_ext 12 _ b (λ q l. kind_column 12 q (a q) (b q) refl l) in
    let t : kind 12 12 (a 12) (b 12) ≡ a 12 = kind_grand 12 12 (a 12) (b 12) refl refl in
    omega arith
