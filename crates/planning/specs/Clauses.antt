-- Where planning stands after some rounds, and what the functions of a round require and promise, on grids. Assumes nothing.
use Rattle.std.specs.Prelude.{◌≡◌, true, ℕ, ◌-◌, ◌*◌, ◌≤◌, ◌<◌, ◌+◌, length, get_or, leb}
use mathlib.Core.List.{List, ◌++◌, map, Memᴰ as Member}
use Rattle.base.specs.Lists.{tabulate, sum, all}
use Rattle.grid.specs.Clauses.{grid_of, grid_cell}
use Rattle.table.specs.Table.{max_denominator, total, entry_places}
use Rattle.table.specs.Whole.{down, rounds_to, up}
use Rattle.table.specs.Clauses.{Shape, IsTable, max_entry}
use Rattle.first_rounding.specs.First.{first_rounding}
use Rattle.is_rounding.specs.Rounding.{two_ways, is_rounding}
use Rattle.first_rounding.specs.Clauses.{rounded_down, IsGrid}
use Rattle.weighted_arrays.specs.Plan.{Weighted}
use Rattle.planning.specs.Rounds.{limit_of, weight_of, without, Round, rounds_from, plan_rounds, arrays_in, AreRounds, not_whole}

-- `done` are the arrays of the first k rounds, `left` is the remaining table over the remaining weight w
pub record Progress (r c d : ℕ) (g : List ℕ) (w k : ℕ) (left : List ℕ) (done : List Weighted) : Type 0 where
  pub shape : Shape r c left
  pub count : length done ≡ k
  -- the rounds so far, and those to come
  pub past : List Round
  pub arrays : arrays_in past ≡ done
  pub fuel : ℕ
  pub enough : w ≤ fuel
  pub rounds : plan_rounds r c d g ≡ past ++ rounds_from fuel r c w left
  -- those so far, and then any that give out all that is left
  pub are_rounds : (l : List Weighted) → AreRounds r c w left l → AreRounds r c d g (done ++ l)
  -- weights, arrays, and what they add up to, for any places
  pub weights : w + sum (map (λ a. a.weight) done) ≡ d
  pub positive : all (λ a. leb 1 a.weight) done ≡ true
  pub rounded : all (λ a. is_rounding (two_ways r c) d g a.counts) done ≡ true
  pub sums : (s : List ℕ) → total left s + sum (map (λ a. a.weight * total a.counts s) done) ≡ total g s
  -- Ernst's bounds (3.4)
  pub low : (s : List ℕ) → Member s (entry_places r c) → down d (total g s) * w ≤ total left s
  pub high : (s : List ℕ) → Member s (entry_places r c) → total left s ≤ up d (total g s) * w
  -- at most one array more than entries that are not whole
  pub few : 0 < w → k + not_whole r c w left ≤ not_whole r c d g
  pub most : k ≤ not_whole r c d g + 1

-- an entry e, over w rounded down q, and a count n that rounds it, with numbers that are small
pub record LimitReady (w e q n : ℕ) : Type 0 where
  pub quotient : q ≡ down w e
  pub some : 0 < w
  pub small : w ≤ max_denominator
  pub entry_small : e ≤ max_entry
  pub rounds : rounds_to w e n ≡ true

-- counts that round the entries over w, with numbers that are small: 144 · 1000 · 65,535 is the largest entry
pub record Rounded (w : ℕ) (e n : List ℕ) : Type 0 where
  pub some : 0 < w
  pub small : w ≤ max_denominator
  pub entry_small : (k : ℕ) → get_or e k 0 ≤ max_entry
  pub rounds : (k : ℕ) → k < 169 → rounds_to w (get_or e k 0) (get_or n k 0) ≡ true

-- the limit of each entry
abbrev pub limit_at : ℕ → List ℕ → List ℕ → ℕ → ℕ
limit_at w e n k = limit_of w (get_or e k 0) (get_or n k 0)

-- what the limits of such counts need: the entries rounded down, and room
pub record LimitsReady (w : ℕ) (e q n l : List ℕ) : Type 0 where
  pub rounded : Rounded w e n
  pub quotients : q ≡ rounded_down w e
  pub len : length l ≡ 169

-- x is the smallest of 169 numbers
pub record Smallest (l : List ℕ) (x : ℕ) : Type 0 where
  pub low : (k : ℕ) → k < 169 → x ≤ get_or l k 0
  pub place : ℕ
  pub inside : place < 169
  pub is : x ≡ get_or l place 0

-- each entry bears x times its count
pub record Bears (x : ℕ) (e n : List ℕ) : Type 0 where
  pub len : length e ≡ 169
  pub small : (k : ℕ) → get_or e k 0 ≤ max_entry
  pub enough : (k : ℕ) → k < 169 → x * get_or n k 0 ≤ get_or e k 0

-- e' is what e has left when x times n is taken
pub record Lost (x : ℕ) (e n e' : List ℕ) : Type 0 where
  pub len : length e' ≡ 169
  pub is : (k : ℕ) → k < 169 → get_or e' k 0 ≡ get_or e k 0 - x * get_or n k 0

-- the cells of a table of r by c cells that is held as a grid
abbrev pub cells_in : ℕ → ℕ → List ℕ → List ℕ
cells_in r c e = tabulate (r * c) (grid_cell e c)

-- e has the entries of a table of r by c cells, small enough that all sums fit
pub record HoldsTable (r c : ℕ) (e : List ℕ) : Type 0 where
  pub shape : Shape r c (cells_in r c e)
  pub grid : e ≡ grid_of r c (cells_in r c e)
  pub small : (k : ℕ) → get_or e k 0 ≤ max_entry

-- what the next array of a remaining table needs: entries, a weight that is left, and room for counts and limits
pub record NextReady (w : ℕ) (e n l : List ℕ) : Type 0 where
  pub grid : IsGrid e
  pub some : 0 < w
  pub small : w ≤ max_denominator
  pub counts_room : length n ≡ 169
  pub limits_room : length l ≡ 169

-- the next array: for the table that has the entries e, n has the array's, x is its weight, and l has the limit of each entry
pub record NextArray (w : ℕ) (e n l : List ℕ) (x : ℕ) : Type 0 where
  pub array : (r c : ℕ) (g : List ℕ) → Shape r c g → e ≡ grid_of r c g → n ≡ grid_of r c (first_rounding r c w g)
  pub limits : l ≡ tabulate 169 (limit_at w e n)
  pub weight : (r c : ℕ) (g : List ℕ) → Shape r c g → e ≡ grid_of r c g → x ≡ weight_of r c w g (first_rounding r c w g)

-- what a round needs: entries, a weight that is left, and room for counts
pub record RoundReady (w : ℕ) (e n : List ℕ) : Type 0 where
  pub grid : IsGrid e
  pub some : 0 < w
  pub small : w ≤ max_denominator
  pub len : length n ≡ 169

-- one round: n and x are the next array and its weight, and e' has the entries of what is left
pub record RoundDone (w : ℕ) (e n : List ℕ) (x : ℕ) (e' : List ℕ) : Type 0 where
  pub array : (r c : ℕ) (g : List ℕ) → Shape r c g → e ≡ grid_of r c g → n ≡ grid_of r c (first_rounding r c w g)
  pub weight : (r c : ℕ) (g : List ℕ) → Shape r c g → e ≡ grid_of r c g → x ≡ weight_of r c w g (first_rounding r c w g)
  pub left : (r c : ℕ) (g : List ℕ) → Shape r c g → e ≡ grid_of r c g → e' ≡ grid_of r c (without x (first_rounding r c w g) g)

-- where the rounds of an accepted table stand after k of them: e has the entries of what is left over w
pub record Reached (r c d : ℕ) (g : List ℕ) (w k : ℕ) (e : List ℕ) : Type 0 where
  pub table : IsTable r c d g
  pub rest : List ℕ
  pub done : List Weighted
  pub progress : Progress r c d g w k rest done
  pub grid : e ≡ grid_of r c rest
