-- Controlled roundings of a table whose cells may be below zero, and the first of them (specification, "The rounding of corrections"): what "The rounding" says,
-- over numbers with a sign. Assumes nothing.
use Rattle.std.specs.Prelude.{◌≡◌, Bool, true, cond, not, ◌&&◌, ◌||◌, List, map, ℕ, ◌*◌, eqb, ℤ, pos, ◌+ℤ◌, length, get_or, ◌<ℤ◌}
use Rattle.std.specs.Int.Signed.{le_z}
use Rattle.base.specs.Lists.{sumℤ, all}
use Rattle.division.specs.Division.{down, rest}
use Rattle.table.specs.Table.{entry_places}
use Rattle.first_rounding.specs.Order.{in_order, array_of, Smaller, Choice, found, first_of}

-- an entry: the sum of the cells at some places
unfoldable pub total : List ℤ → List ℕ → ℤ
total g s = sumℤ (map (λ k. get_or g k (pos 0)) s)

-- w divides the entry: of the division, which rounds towards minus infinity (`down`), nothing is left over
abbrev pub whole : ℕ → ℤ → Bool
whole w e = eqb (rest w e) 0

-- the entry over w, rounded up
abbrev pub up : ℕ → ℤ → ℤ
up w e = down w e +ℤ pos (cond (whole w e) 0 1)

-- two numbers are the same
abbrev pub same : ℤ → ℤ → Bool
same x y = le_z x y && le_z y x

-- the count n is the entry over w, rounded down or up; of a whole entry it is the entry over w
unfoldable pub rounds_to : ℕ → ℤ → ℤ → Bool
rounds_to w e n = same n (down w e) || (not (whole w e) && same n (down w e +ℤ pos 1))

-- n has one count a cell, and each of its entries, totals included, is the table's over w, rounded down or up; a whole one stays. A count of an accepted table
-- is from -1,000 to 1,000.
unfoldable pub is_rounding : ℕ → ℕ → ℕ → List ℤ → List ℤ → Bool
is_rounding r c w g n = eqb (length n) (r * c) && all (λ s. rounds_to w (total g s) (total n s)) (entry_places r c)

-- array k comes before array n: at the first cell, in the order of cells, where they differ, it has the smaller count
abbrev pub Before : ℕ → ℕ → List ℤ → List ℤ → Type 0
Before r c k n = Smaller ◌<ℤ◌ (in_order (pos 0) r c k) (in_order (pos 0) r c n)

-- a controlled rounding that no other comes before
pub record IsFirst (r c w : ℕ) (g n : List ℤ) : Type 0 where
  pub rounding : is_rounding r c w g n ≡ true
  pub first : (k : List ℤ) → is_rounding r c w g k ≡ true → Before r c k n → ⊥

-- the same array, searched for in the order in which cells are compared: a cell's count is the cell over w rounded down, or up unless it is whole
abbrev pub choice : ℕ → ℤ → Choice ℤ
choice w e = record { low = down w e; high = up w e }

unfoldable pub first_rounding : ℕ → ℕ → ℕ → List ℤ → List ℤ
first_rounding r c w g =
    array_of (pos 0) r c (found (first_of (λ l. is_rounding r c w g (array_of (pos 0) r c l)) (map (choice w) (in_order (pos 0) r c g))))
