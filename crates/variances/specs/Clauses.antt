-- What the functions inside require and promise. Assumes nothing.
use Rattle.std.specs.Prelude.{◌≡◌, List, [], ◌∷◌, ℕ, ◌*◌, ◌≤◌, ℤ, pos, length, get_or}
use Rattle.std.proofs.Math.IntN.{sub_ℕ}
use Rattle.base.specs.Lists.{sum_to}
use Rattle.table.specs.Table.{max_denominator}
use Rattle.weighted_arrays.specs.Plan.{Plan}
use Rattle.covariances.specs.Covariance.{lift}
use Rattle.variances.specs.declared.Numerators.{Numerators}
use Rattle.variances.specs.Variance.{numerators, rounding_variance}

-- the numerators that the code's numbers stand for
abbrev pub numerators_of : Numerators → List ℤ
numerators_of n = pos n.variances ∷ sub_ℕ n.smallest lift ∷ sub_ℕ n.largest lift ∷ []

-- none of them is large: twice the lift is below 2^53
pub record Small (n : Numerators) : Type 0 where
  pub variances : n.variances ≤ 2 * lift
  pub smallest : n.smallest ≤ 2 * lift
  pub largest : n.largest ≤ 2 * lift

-- the code's numbers stand for a plan's numerators
pub record Measured (p : Plan) (n : Numerators) : Type 0 where
  pub is : numerators_of n ≡ numerators p
  pub small : Small n

-- numbers that are not large, and room for three
pub record WriteReady (n : Numerators) (numerators : List ℤ) : Type 0 where
  pub small : Small n
  pub room : 3 ≤ length numerators

-- a denominator within its bounds, and not more cells than a table has
pub record DenominatorWithin (d : ℕ) : Type 0 where
  pub some : 1 ≤ d
  pub most : d ≤ max_denominator

pub record SumReady (d : ℕ) (cells : List ℕ) : Type 0 where
  pub denominator : DenominatorWithin d
  pub few : length cells ≤ 144

-- the variances of all cells, added up
abbrev pub variances_of : ℕ → List ℕ → ℕ
variances_of d cells = sum_to (length cells) (λ i. rounding_variance d (get_or cells i 0))

pub record VariancesOf (d : ℕ) (cells : List ℕ) (r : ℕ) : Type 0 where
  pub is : r ≡ variances_of d cells
  pub small : r ≤ 2 * lift
