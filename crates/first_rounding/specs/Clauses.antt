-- What the functions inside require and promise, on grids: a count is an entry rounded down or up, by a bit. Assumes nothing.
use Rattle.std.specs.Prelude.{◌≡◌, cond, List, ℕ, ◌+◌, ◌-◌, ◌*◌, ◌/◌, ◌%◌, ◌<◌, ◌≤◌, length, get_or, eqb}
use Rattle.base.specs.Lists.{tabulate, sum_to}
use Rattle.table.specs.Whole.{down, up, gap}
use Rattle.table.specs.Clauses.{Shape, max_entry}
use Rattle.grid.specs.Clauses.{grid_of}
use Rattle.first_rounding.specs.First.{first_rounding}

-- one of two numbers: the first at a cell and at the grand total, the second at a total of a row or a column
unfoldable pub kind : ℕ → ℕ → ℕ → ℕ → ℕ
kind p q a b = cond (eqb p 12) (cond (eqb q 12) a b) (cond (eqb q 12) b a)

-- what the quotients of entries need: a weight, small entries, and room
pub record QuotientsReady (w : ℕ) (e low high cap : List ℕ) : Type 0 where
  pub some : 0 < w
  pub small : (k : ℕ) → get_or e k 0 ≤ max_entry
  pub low_len : length low ≡ 169
  pub high_len : length high ≡ 169
  pub cap_len : length cap ≡ 169

-- the entries over w, rounded down
abbrev pub rounded_down : ℕ → List ℕ → List ℕ
rounded_down w e = tabulate 169 (λ k. down w (get_or e k 0))

-- the entries over w: rounded down, rounded up, and their gaps
pub record Quotients (w : ℕ) (e low high cap : List ℕ) : Type 0 where
  pub downs : low ≡ rounded_down w e
  pub ups : high ≡ tabulate 169 (λ k. up w (get_or e k 0))
  pub gaps : cap ≡ tabulate 169 (λ k. gap w (get_or e k 0))

-- twelve numbers from `start` on, `step` apart, added up
unfoldable pub line_sum : List ℕ → ℕ → ℕ → ℕ
line_sum l start step = sum_to 12 (λ k. get_or l (start + k * step) 0)

-- a line of 13 places, whose sums fit 64 bits
pub record LineFits (l : List ℕ) (start step : ℕ) : Type 0 where
  pub step_small : step ≤ 13
  pub inside : start + 12 * step < 169
  pub small : (k : ℕ) → get_or l k 0 ≤ max_entry + 1

-- what the cells rounded down leave of their total rounded up is from 0 to 13
pub record CellsFit (low high : List ℕ) (start step : ℕ) : Type 0 where
  pub fits : LineFits low start step
  pub least : line_sum low start step ≤ get_or high (start + 12 * step) 0
  pub most : get_or high (start + 12 * step) 0 ≤ line_sum low start step + 13

-- what the grand total rounded down leaves of the totals rounded up is from 0 to 13
pub record TotalsFit (low high : List ℕ) (start step : ℕ) : Type 0 where
  pub fits : LineFits high start step
  pub least : get_or low (start + 12 * step) 0 ≤ line_sum high start step
  pub most : line_sum high start step ≤ get_or low (start + 12 * step) 0 + 13

-- lines that are `next` apart
pub record LinesFit (low high : List ℕ) (next step : ℕ) : Type 0 where
  pub next_small : next ≤ 13
  pub cells : (i : ℕ) → i < 12 → CellsFit low high (i * next) step
  pub totals : TotalsFit low high (12 * next) step

-- how many bits each of these lines has: its need
pub record Needs (low high : List ℕ) (next step : ℕ) (n : List ℕ) : Type 0 where
  pub len : length n ≡ 13
  pub cells : (i : ℕ) → i < 12 → get_or n i 0 + line_sum low (i * next) step ≡ get_or high (i * next + 12 * step) 0
  pub totals : get_or n 12 0 + get_or low (12 * next + 12 * step) 0 ≡ line_sum high (12 * next) step

-- bits that can be added to an entry rounded down, and taken off one rounded up
pub record BitsFit (low high b : List ℕ) : Type 0 where
  pub small : (k : ℕ) → get_or low k 0 ≤ max_entry + 1
  pub bits : (k : ℕ) → k < 169 → get_or b k 0 ≤ get_or high k 0

-- a bit added to an entry rounded down, and one taken off an entry rounded up
abbrev pub added_to : List ℕ → List ℕ → ℕ → ℕ
added_to low b k = get_or low k 0 + get_or b k 0

abbrev pub taken_off : List ℕ → List ℕ → ℕ → ℕ
taken_off high b k = get_or high k 0 - get_or b k 0

-- the count at place k: the bit of a row or column total is taken off the entry rounded up, that of a cell or the grand total is added to it rounded down
abbrev pub count_at : List ℕ → List ℕ → List ℕ → ℕ → ℕ
count_at low high b k = kind (k / 13) (k % 13) (added_to low b k) (taken_off high b k)

-- the entries of some table, small enough that all sums fit
pub record IsGrid (e : List ℕ) : Type 0 where
  pub rows : ℕ
  pub columns : ℕ
  pub cells : List ℕ
  pub shape : Shape rows columns cells
  pub is : e ≡ grid_of rows columns cells
  pub small : (k : ℕ) → get_or e k 0 ≤ max_entry

-- what the counts of twelve totals need, from `start` on, `step` apart, and all counts
pub record TotalsReady (high b n : List ℕ) (start step : ℕ) : Type 0 where
  pub bits : (k : ℕ) → k < 169 → get_or b k 0 ≤ get_or high k 0
  pub step_some : 1 ≤ step
  pub step_small : step ≤ 13
  pub inside : start + 12 * step < 169
  pub len : length n ≡ 169

pub record CountsReady (low high b n : List ℕ) : Type 0 where
  pub fit : BitsFit low high b
  pub len : length n ≡ 169

-- `new` holds f at the first `count` places from `start` on, `step` apart, and elsewhere what `old` holds
pub record Overwritten (f : ℕ → ℕ) (start step : ℕ) (old new : List ℕ) (count : ℕ) : Type 0 where
  pub len : length new ≡ length old
  pub on : (i : ℕ) → i < count → get_or new (start + i * step) 0 ≡ f (start + i * step)
  pub off : (k : ℕ) → ((i : ℕ) → i < count → k ≡ start + i * step → ⊥) → get_or new k 0 ≡ get_or old k 0

-- what the rounding of a grid over w into n needs, with room for the entries rounded down
pub record GridReady (w : ℕ) (e low n : List ℕ) : Type 0 where
  pub grid : IsGrid e
  pub some : 0 < w
  pub low_len : length low ≡ 169
  pub len : length n ≡ 169

-- of every table that has the entries e, n has the entries of the first controlled rounding
pub record RoundedGrid (w : ℕ) (e n : List ℕ) : Type 0 where
  pub is : (r c : ℕ) (g : List ℕ) → Shape r c g → e ≡ grid_of r c g → n ≡ grid_of r c (first_rounding r c w g)
