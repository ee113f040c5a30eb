-- Rounds, limits and weights: the plan of a table (specification, "The plan"; Ernst 1981, Section 3). Assumes nothing.
use Rattle.std.specs.Prelude.{◌≡◌, cond, ℕ, zero, suc, ◌+◌, ◌-◌, ◌*◌, ◌<◌, eqb}
use mathlib.Core.List.{List, [], ◌∷◌, map, zip_with}
use Rattle.base.specs.Lists.{sum, least}
use Rattle.table.specs.Table.{total, entry_places}
use Rattle.table.specs.Whole.{down, gap}
use Rattle.first_rounding.specs.First.{IsFirst, first_rounding}
use Rattle.weighted_arrays.specs.Plan.{Weighted, Plan}

-- the limit of an entry e over w with the count n: (n + 1)·w − e where n is e over w rounded down, which is w where e is whole, and else e − (n − 1)·w
unfoldable pub limit_of : ℕ → ℕ → ℕ → ℕ
limit_of w e n = cond (eqb n (down w e)) ((n + 1) * w - e) (e - (n - 1) * w)

-- the weight of an array: the smallest limit of its entries
unfoldable pub weight_of : ℕ → ℕ → ℕ → List ℕ → List ℕ → ℕ
weight_of r c w g n = least (map (λ s. limit_of w (total g s) (total n s)) (entry_places r c))

-- what is left of a table when x times an array is taken
unfoldable pub without : ℕ → List ℕ → List ℕ → List ℕ
without x n g = zip_with (λ e k. e - x * k) g n

-- a round: the remaining weight and the remaining table that it begins with, and the array that it gives
pub record Round : Type 0 where
  pub left : ℕ
  pub table : List ℕ
  pub array : Weighted

-- the round of a remaining table g over the remaining weight w: its array is the first controlled rounding of g over w
abbrev pub round_on : ℕ → ℕ → ℕ → List ℕ → Round
round_on r c w g =
    let n = first_rounding r c w g in
    record { left = w; table = g; array = record { weight = weight_of r c w g n; counts = n } }

-- the rounds of what is left, a table g over the weight w, until no weight is left: a round, and then the rounds of what its array leaves, weight times counts
-- taken off the table and the weight off w. At most `fuel` rounds.
unfoldable pub rounds_from : ℕ → ℕ → ℕ → ℕ → List ℕ → List Round
rounds_from zero r c w g = []
rounds_from (suc fuel) r c zero g = []
rounds_from (suc fuel) r c (suc v) g =
    let x = round_on r c (suc v) g in
    x ∷ rounds_from fuel r c (suc v - x.array.weight) (without x.array.weight x.array.counts g)

-- the rounds of a table: the remaining weight is at first D, the remaining table at first g. A weight is at least 1, so D rounds are enough: that none is cut
-- off is promised for every accepted table (`Promises`, `weights`: they add up to D).
abbrev pub plan_rounds : ℕ → ℕ → ℕ → List ℕ → List Round
plan_rounds r c d g = rounds_from d r c d g

-- the arrays of some rounds, in the rounds' order
abbrev pub arrays_in : List Round → List Weighted
arrays_in l = map (λ x. x.array) l

unfoldable pub plan_of : ℕ → ℕ → ℕ → List ℕ → Plan
plan_of r c d g = record { rows = r; columns = c; denominator = d; cells = g; arrays = arrays_in (plan_rounds r c d g) }

-- What holds of a round, without a search: some weight w remains, its array is the first of all controlled roundings of the remaining table g over w,
-- and the array's weight is the smallest limit.
pub record IsRound (r c w : ℕ) (g : List ℕ) (a : Weighted) : Type 0 where
  pub remaining : 0 < w
  pub first : IsFirst r c w g a.counts
  pub weight : a.weight ≡ weight_of r c w g a.counts

-- Each array of a list is that of a round of what the ones before leave, and in the end no weight is left.
unfoldable pub AreRounds : ℕ → ℕ → ℕ → List ℕ → List Weighted → Type 0
AreRounds r c w g [] = w ≡ 0
AreRounds r c w g (a ∷ l) = IsRound r c w g a × AreRounds r c (w - a.weight) (without a.weight a.counts g) l

-- how many entries are not whole, totals included
unfoldable pub not_whole : ℕ → ℕ → ℕ → List ℕ → ℕ
not_whole r c w g = sum (map (λ s. gap w (total g s)) (entry_places r c))
