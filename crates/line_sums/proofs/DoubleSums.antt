-- Laws on sums over the places of a matrix. Assumes nothing.
use mathlib.Core.Path.{◌≡◌, ◌∙◌}
use Prim.Native.Nat.{ℕ, ◌+◌, ◌*◌}
use Rattle.base.specs.Lists.{sum_to}
use Rattle.base.proofs.Sums.{sum_ext, sum_add, sum_mul, sum_swap}

module _ (n k : ℕ) where
  -- each entry times its row's number
  pub by_rows : (a : ℕ → ℕ) (y : ℕ → ℕ → ℕ) → sum_to n (λ p. sum_to k (λ q. a p * y p q)) ≡ sum_to n (λ p. a p * sum_to k (λ q. y p q))
  by_rows a y = sum_ext n (λ p. sum_to k (λ q. a p * y p q)) (λ p. a p * sum_to k (λ q. y p q)) (λ p h. sum_mul k (a p) (y p))

  -- each entry times its column's number
  pub by_cols : (b : ℕ → ℕ) (y : ℕ → ℕ → ℕ) → sum_to n (λ p. sum_to k (λ q. b q * y p q)) ≡ sum_to k (λ q. b q * sum_to n (λ p. y p q))
  by_cols b y =
      sum_swap n k (λ p q. b q * y p q)
      ∙ sum_ext k (λ q. sum_to n (λ p. b q * y p q)) (λ q. b q * sum_to n (λ p. y p q)) (λ q h. sum_mul n (b q) (λ p. y p q))

  pub sum_both : (f g : ℕ → ℕ → ℕ) → sum_to n (λ p. sum_to k (λ q. f p q + g p q)) ≡ sum_to n (λ p. sum_to k (λ q. f p q)) + sum_to n (λ p. sum_to k (λ q. g p q))
  sum_both f g =
      sum_ext n (λ p. sum_to k (λ q. f p q + g p q)) (λ p. sum_to k (λ q. f p q) + sum_to k (λ q. g p q)) (λ p h. sum_add k (f p) (g p))
      ∙ sum_add n (λ p. sum_to k (λ q. f p q)) (λ p. sum_to k (λ q. g p q))
