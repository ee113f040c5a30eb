-- The examples of the specification ("Examples") that carry proof, as a table, and those that are about every size or denominator. Assumes nothing.
use Rattle.std.specs.Prelude.{◌≡◌, List, [], ◌∷◌, map, ℕ, ◌+◌, ◌*◌, ◌≤◌, replicate}
use Rattle.base.specs.Lists.{tabulate}
use Rattle.table.specs.Table.{max_rows, max_columns, max_denominator}
use Rattle.table.specs.Clauses.{checked_number, check_of}
use Rattle.weighted_arrays.specs.Plan.{Plan, array_for}
use Rattle.form.specs.Form.{decode}
use Rattle.form.specs.Examples.{square}
use Rattle.planning.specs.Rounds.{plan_of}
use Rattle.records.specs.Record.{record_of}
use Rattle.demands.specs.Resumed.{numbers_drawn}

-- what an example says of a table: its plan, for each array the weight and then the counts; the arrays that draw numbers 0, 1, .. belong to; or the
-- number that the table is answered with, 0 where it is taken
pub data Said : Type 0 where
  listing : List (List ℕ) → Said
  arrays : List (List ℕ) → Said
  number : ℕ → Said

pub record Example : Type 0 where
  pub rows : ℕ
  pub columns : ℕ
  pub denominator : ℕ
  pub cells : List ℕ
  pub said : Said

abbrev pub example : ℕ → ℕ → ℕ → List ℕ → Said → Example
example r c d g x = record { rows = r; columns = c; denominator = d; cells = g; said = x }

abbrev pub examples : List Example
examples =
    example 2 2 10 (3 ∷ 4 ∷ 5 ∷ 6 ∷ [])
    (listing ((2 ∷ 0 ∷ 0 ∷ 0 ∷ 1 ∷ []) ∷ (1 ∷ 0 ∷ 0 ∷ 1 ∷ 1 ∷ []) ∷ (4 ∷ 0 ∷ 1 ∷ 1 ∷ 0 ∷ []) ∷ (3 ∷ 1 ∷ 0 ∷ 0 ∷ 1 ∷ []) ∷ []))
    -- draws 0 and 1, 2, 3 to 6, 7 to 9
    ∷ example 2 2 10 (3 ∷ 4 ∷ 5 ∷ 6 ∷ [])
    (arrays
    ((0 ∷ 0 ∷ 0 ∷ 1 ∷ []) ∷ (0 ∷ 0 ∷ 0 ∷ 1 ∷ [])
    ∷ (0 ∷ 0 ∷ 1 ∷ 1 ∷ [])
    ∷ (0 ∷ 1 ∷ 1 ∷ 0 ∷ []) ∷ (0 ∷ 1 ∷ 1 ∷ 0 ∷ []) ∷ (0 ∷ 1 ∷ 1 ∷ 0 ∷ []) ∷ (0 ∷ 1 ∷ 1 ∷ 0 ∷ [])
    ∷ (1 ∷ 0 ∷ 0 ∷ 1 ∷ []) ∷ (1 ∷ 0 ∷ 0 ∷ 1 ∷ []) ∷ (1 ∷ 0 ∷ 0 ∷ 1 ∷ []) ∷ []))
    ∷ example 1 1 3 (2 ∷ []) (listing ((1 ∷ 0 ∷ []) ∷ (2 ∷ 1 ∷ []) ∷ []))
    ∷ example 2 2 2 (1 ∷ 1 ∷ 1 ∷ 1 ∷ []) (listing ((1 ∷ 0 ∷ 1 ∷ 1 ∷ 0 ∷ []) ∷ (1 ∷ 1 ∷ 0 ∷ 0 ∷ 1 ∷ []) ∷ []))
    ∷ example 1 2 4 (4 ∷ 6 ∷ []) (listing ((2 ∷ 1 ∷ 1 ∷ []) ∷ (2 ∷ 1 ∷ 2 ∷ []) ∷ []))
    -- D 65,535; 0 and 65,536
    ∷ example 1 1 65535 (0 ∷ []) (number 0)
    ∷ example 1 1 0 (0 ∷ []) (number 2)
    ∷ example 1 1 65536 (0 ∷ []) (number 2)
    -- r 12; 0 and 13
    ∷ example 12 1 1 (replicate 12 0) (number 0)
    ∷ example 0 1 1 [] (number 1)
    ∷ example 13 1 1 (replicate 13 0) (number 1)
    ∷ []

abbrev pub listing_of : Plan → List (List ℕ)
listing_of p = map (λ a. a.weight ∷ a.counts) p.arrays

-- the same by the definitions
abbrev pub computed : Example → Said → Said
computed x (listing l) = listing (listing_of (plan_of x.rows x.columns x.denominator x.cells))
computed x (arrays l) = arrays (tabulate x.denominator (array_for (plan_of x.rows x.columns x.denominator x.cells).arrays))
computed x (number n) = number (checked_number (check_of x.rows x.columns x.denominator x.cells))

-- the examples, one theorem over the rows of their table, and the two that are about every denominator
pub record ExamplesHold : Type 0 where
  pub rows : map (λ x. computed x x.said) examples ≡ map (λ x. x.said) examples
  -- a table of zeros has one array of zeros, with all the weight
  pub zeros : (r c d : ℕ) → 1 ≤ r → r ≤ max_rows → 1 ≤ c → c ≤ max_columns → 1 ≤ d
      → (plan_of r c d (replicate (r * c) 0)).arrays ≡ record { weight = d; counts = replicate (r * c) 0 } ∷ []
  -- a cell of 1000·D is taken, and one more gives 4
  pub cell_taken : (d : ℕ) → 1 ≤ d → d ≤ max_denominator → checked_number (check_of 1 1 d ((1000 * d) ∷ [])) ≡ 0
  pub cell_above : (d : ℕ) → 1 ≤ d → d ≤ max_denominator → checked_number (check_of 1 1 d ((1000 * d + 1) ∷ [])) ≡ 4
  -- two rounds over D 2 and then number 1: the numbers that the record says were drawn
  pub numbers_drawn_are : numbers_drawn (decode square) (record_of 1 2 (2 ∷ []) (3 ∷ 2 ∷ 2 ∷ 3 ∷ [])) ≡ 0 ∷ 1 ∷ 0 ∷ 1 ∷ 1 ∷ []
