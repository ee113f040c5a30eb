-- Covariances of what a drawn array counts (specification, "Variances"). Each is a numerator: the value is that over D·D. Assumes nothing.
use Rattle.std.specs.Prelude.{cond, ℕ, ◌*◌, ℤ, pos, get_or}
use mathlib.Core.List.{List, [], ◌∷◌, map, foldl}
use Rattle.std.proofs.Math.IntN.{sub_ℕ}
use Rattle.std.specs.Int.Signed.{le_z}
use Rattle.base.specs.Lists.{tabulate, sum, join_to}
use Rattle.table.specs.Table.{total}
use Rattle.weighted_arrays.specs.Plan.{Weighted, Plan, cell_count}

-- what is looked at in the table and in each array alike: the number at a place, or the total over some places
abbrev pub at : ℕ → List ℕ → ℕ
at k n = get_or n k 0

abbrev pub over : List ℕ → List ℕ → ℕ
over s n = total n s

-- the products of what x and y see in each array, times its weight, added up
abbrev pub weighted_products : List Weighted → (List ℕ → ℕ) → (List ℕ → ℕ) → ℕ
weighted_products l x y = sum (map (λ a. a.weight * (x a.counts * y a.counts)) l)

-- their covariance: D times that, minus the product of what they see in the table
unfoldable pub covariance : Plan → (List ℕ → ℕ) → (List ℕ → ℕ) → ℤ
covariance p x y = sub_ℕ (p.denominator * weighted_products p.arrays x y) (x p.cells * y p.cells)

-- the covariance of the cells at two places, a cell's with itself being its variance
abbrev pub cell_covariance : Plan → ℕ → ℕ → ℤ
cell_covariance p a b = covariance p (at a) (at b)

-- the smaller and the larger of two numbers, and the smallest and the largest of a list; 0 where it is empty
abbrev pub smaller : ℤ → ℤ → ℤ
smaller x y = cond (le_z x y) x y

abbrev pub larger : ℤ → ℤ → ℤ
larger x y = cond (le_z x y) y x

unfoldable pub extreme : (ℤ → ℤ → ℤ) → List ℤ → ℤ
extreme f [] = pos 0
extreme f (x ∷ l) = foldl f x l

abbrev pub smallest : List ℤ → ℤ
smallest l = extreme smaller l

abbrev pub largest : List ℤ → ℤ
largest l = extreme larger l

-- the covariances of two different cells, each pair once
unfoldable pub covariances : Plan → List ℤ
covariances p = join_to (cell_count p) (λ a. tabulate a (λ b. cell_covariance p a b))

-- what the code lifts covariances by, so that none is below zero: the largest product of two cells, 1000 · 65,535 each
abbrev pub lift : ℕ
lift = 4294836225000000
