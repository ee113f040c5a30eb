-- The first controlled rounding of a table (specification, "The rounding"). Assumes nothing.
use Rattle.std.specs.Prelude.{◌≡◌, true, List, map, ℕ}
use Rattle.table.specs.Whole.{down, up}
use Rattle.is_rounding.specs.Rounding.{two_ways, is_rounding}
use Rattle.first_rounding.specs.Order.{in_order, array_of, Before, Choice, found, first_of}

-- a controlled rounding that no other comes before
pub record IsFirst (r c w : ℕ) (g n : List ℕ) : Type 0 where
  pub rounding : is_rounding (two_ways r c) w g n ≡ true
  pub first : (k : List ℕ) → is_rounding (two_ways r c) w g k ≡ true → Before r c k n → ⊥

-- the same array, searched for in the order in which cells are compared: a cell's count is the cell over w rounded down, or up unless it is whole
abbrev pub choice : ℕ → ℕ → Choice ℕ
choice w e = record { low = down w e; high = up w e }

-- for an accepted table the search finds some
unfoldable pub first_rounding : ℕ → ℕ → ℕ → List ℕ → List ℕ
first_rounding r c w g = array_of 0 r c (found (first_of (λ l. is_rounding (two_ways r c) w g (array_of 0 r c l)) (map (choice w) (in_order 0 r c g))))
