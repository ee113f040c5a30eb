-- Variances of what a drawn array counts, and the three numerators of a plan (specification, "Variances"). Each is a numerator: the value is that over D·D. Assumes nothing.
use Rattle.std.specs.Prelude.{List, [], ◌∷◌, map, ℕ, ◌-◌, ◌*◌, ◌%◌, ℤ}
use Rattle.base.specs.Lists.{tabulate, sumℤ}
use Rattle.weighted_arrays.specs.Plan.{Plan, cell_count}
use Rattle.covariances.specs.Covariance.{over, covariance, cell_covariance, smallest, largest, covariances}

-- the variance of a total over some places
abbrev pub variance : Plan → List ℕ → ℤ
variance p s = covariance p (over s) (over s)

-- f·(D - f), f the remainder of an entry by D: what its variance is where each array has it rounded down or up
abbrev pub rounding_variance : ℕ → ℕ → ℕ
rounding_variance d e = e % d * (d - e % d)

-- the covariances over all ordered pairs of some places, a place with itself included, added up
abbrev pub over_pairs : Plan → List ℕ → ℤ
over_pairs p s = sumℤ (map (λ a. sumℤ (map (λ b. cell_covariance p a b) s)) s)

-- the three numerators: the sum of all cell variances, the smallest and the largest covariance of two different cells
unfoldable pub numerators : Plan → List ℤ
numerators p =
    sumℤ (tabulate (cell_count p) (λ a. cell_covariance p a a))
    ∷ smallest (covariances p)
    ∷ largest (covariances p)
    ∷ []
