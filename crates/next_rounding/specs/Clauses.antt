-- What the functions inside require and promise: arrays by number. The counts of an array are those rounded down, each with a binary digit of its number added, of
-- which the first cell in the order of cells has the highest; so the order of arrays is that of their numbers. Assumes nothing.
use Rattle.std.specs.Prelude.{◌≡◌, Bool, true, false, List, ℕ, zero, suc, ◌+◌, ◌-◌, ◌*◌, ◌/◌, ◌%◌, ◌^◌, ◌<◌, ◌≤◌, length, get_or, Option, Some, None}
use Rattle.base.specs.Lists.{tabulate}
use Rattle.cell_order.specs.Order.{nth_row, nth_column, rank}
use Rattle.table.specs.Table.{entry_places}
use Rattle.is_rounding.specs.Rounding.{two_ways, is_rounding}
use Rattle.is_rounding.specs.Clauses.{Room, entries_between}
use Rattle.next_rounding.specs.Next.{written_if}

-- a table of up to four by four
pub record Small (r c : ℕ) : Type 0 where
  pub some_rows : 1 ≤ r
  pub rows : r ≤ 4
  pub some_columns : 1 ≤ c
  pub columns : c ≤ 4

-- the place of the i-th cell in the order of cells; and a list of these places
abbrev pub nth_place : ℕ → ℕ → ℕ → ℕ
nth_place r c i = nth_row r c i * c + nth_column r c i

pub record Places (r c : ℕ) (places : List ℕ) : Type 0 where
  pub len : length places ≡ 16
  pub are : (i : ℕ) → i < r * c → get_or places i 0 ≡ nth_place r c i

-- digit i of the k digits of x, the highest first
abbrev pub digit : ℕ → ℕ → ℕ → ℕ
digit k x i = x / 2 ^ (k - 1 - i) % 2

-- the number of which the first k digits are given
unfoldable pub value_of : ℕ → (ℕ → ℕ) → ℕ
value_of zero b = 0
value_of (suc i) b = 2 * value_of i b + b i

-- by how much a count is above that rounded down, at the i-th cell; and the number of an array
abbrev pub digit_at : ℕ → ℕ → List ℕ → List ℕ → ℕ → ℕ
digit_at r c low n i = get_or n (nth_place r c i) 0 - get_or low (nth_place r c i) 0

abbrev pub number_in : ℕ → ℕ → List ℕ → List ℕ → ℕ
number_in r c low n = value_of (r * c) (digit_at r c low n)

-- the array with a number
unfoldable pub numbered : ℕ → ℕ → List ℕ → ℕ → List ℕ
numbered r c low x = tabulate (r * c) (λ p. get_or low p 0 + digit (r * c) x (rank r c (p / c) (p % c)))

-- what adding a digit needs
pub record CountReady (low place : ℕ) : Type 0 where
  pub small : low ≤ 1000
  pub below : place < 16

-- what arrays are numbered by: the places of the cells, and the bounds of the entries, of which those of the cells are counts
pub record IsNumbering (r c : ℕ) (places low high : List ℕ) : Type 0 where
  pub small : Small r c
  pub places_are : Places r c places
  pub room : Room low high
  pub counts : (p : ℕ) → p < r * c → get_or low p 0 ≤ 1000

-- an array of which each count is that rounded down or one more
pub record NumberReady (r c : ℕ) (low n : List ℕ) : Type 0 where
  pub len : length n ≡ r * c
  pub least : (p : ℕ) → p < r * c → get_or low p 0 ≤ get_or n p 0
  pub most : (p : ℕ) → p < r * c → get_or n p 0 ≤ get_or low p 0 + 1

-- whether the array with a number lies between the bounds
abbrev pub passes : ℕ → ℕ → List ℕ → List ℕ → ℕ → Bool
passes r c low high x = entries_between (entry_places r c) (numbered r c low x) low high

-- x is the first number from `from` on that passes, below `end`; and that none below it does
pub record FirstFrom (test : ℕ → Bool) (from end x : ℕ) : Type 0 where
  pub least : from ≤ x
  pub below : x < end
  pub skipped : (y : ℕ) → from ≤ y → y < x → test y ≡ false
  pub passes : test x ≡ true

pub record NoneFrom (test : ℕ → Bool) (from end : ℕ) : Type 0 where
  pub skipped : (y : ℕ) → from ≤ y → y < end → test y ≡ false

-- a table of up to four by four, a controlled rounding of it, and a buffer with room
pub record NextReady (r c d : ℕ) (g n counts : List ℕ) : Type 0 where
  pub small : Small r c
  pub rounding : is_rounding (two_ways r c) d g n ≡ true
  pub room : r * c ≤ length counts

-- whether something follows, and the buffer with it
abbrev pub is_some : Option (List ℕ) → Bool
is_some (Some k) = true
is_some None = false

pub record Found (o : Option (List ℕ)) (old : List ℕ) (found : Bool) (new : List ℕ) : Type 0 where
  pub answer : found ≡ is_some o
  pub left : new ≡ written_if o old
