-- The pool of two tables of one size, and its refusals (specification, "Pooling two tables" and "Refusals"). Assumes nothing.
use Rattle.std.specs.Prelude.{◌≡◌, not, ◌||◌, ◌⊎◌, ℕ, ◌+◌, ◌*◌, ◌/◌, length, ltb, Option, None}
use mathlib.Core.List.{List, [], ◌∷◌, ◌++◌, zip_with}
use Rattle.base.specs.Buffers.{written}
use Rattle.refusals.specs.declared.Refusal.{Refusal}
use Rattle.refusals.specs.declared.Refusal.TheVariants.{Multiple, PooledCell, Buffer}
use Rattle.refusals.specs.Due.{Test, refuse, due}
use Rattle.refusals.specs.Either.{either}
use Rattle.table.specs.Table.{max_denominator}
use Rattle.table.specs.Check.{size_tests, table_tests, cells_within, BelowZero}
use Rattle.multiples.specs.Multiple.{least_multiple}

-- the cells of two tables, the first's a times and the second's b times, added up cell by cell
abbrev pub scaled_cells : ℕ → ℕ → List ℕ → List ℕ → List ℕ
scaled_cells a b g h = zip_with (λ x y. a * x + b * y) g h

-- the pool of the cells g over d and h over e: all cells brought to the least common multiple of d and e, which both divide, and added up
unfoldable pub pooled_cells : ℕ → List ℕ → ℕ → List ℕ → List ℕ
pooled_cells d g e h = let m = least_multiple d e in scaled_cells (m / d) (m / e) g h

-- the refusals that the two parts meet: 1 to 4, each where it applies to either
abbrev pub parts_tests : ℕ → ℕ → ℕ → List ℕ → ℕ → List ℕ → List Test
parts_tests r c d g e h = either (table_tests r c d g) (table_tests r c e h)

-- those of pooling them: after 1 to 4, 11, the multiple is above 65,535; 12, a pooled cell is above 1000 times the multiple
abbrev pub pooling_tests : ℕ → ℕ → ℕ → List ℕ → ℕ → List ℕ → List Test
pooling_tests r c d g e h =
    parts_tests r c d g e h
    ++ (refuse Multiple (ltb max_denominator (least_multiple d e)) ∷ refuse PooledCell (not (cells_within (least_multiple d e) (pooled_cells d g e h))) ∷ [])

-- a pool is accepted if none of these applies
unfoldable pub pooling_refusal : ℕ → ℕ → ℕ → List ℕ → ℕ → List ℕ → Option Refusal
pooling_refusal r c d g e h = due (pooling_tests r c d g e h)

-- none of 1 to 3 applies to either table, and a cell of either is below zero
pub record EitherBelowZero (r c d : ℕ) (g : List ℕ) (e : ℕ) (h : List ℕ) : Type 0 where
  pub first_sizes : due (size_tests r c d (length g)) ≡ None
  pub second_sizes : due (size_tests r c e (length h)) ≡ None
  pub below : BelowZero r c d g ⊎ BelowZero r c e h

-- the two buffers that the call is lent, for the denominator and for the cells
pub record Lent : Type 0 where
  pub denominator : List ℕ
  pub cells : List ℕ

abbrev pub lent : List ℕ → List ℕ → Lent
lent denominator cells = record { denominator = denominator; cells = cells }

-- the refusals of the call: those of pooling, and then 7, a buffer is shorter than its result
abbrev pub pool_tests : ℕ → ℕ → ℕ → List ℕ → ℕ → List ℕ → ℕ → ℕ → List Test
pool_tests r c d g e h numbers room = pooling_tests r c d g e h ++ (refuse Buffer (ltb numbers 1 || ltb room (r * c)) ∷ [])

unfoldable pub pool_refusal : ℕ → ℕ → ℕ → List ℕ → ℕ → List ℕ → ℕ → ℕ → Option Refusal
pool_refusal r c d g e h numbers room = due (pool_tests r c d g e h numbers room)

-- what it writes
abbrev pub pooled_into : ℕ → List ℕ → ℕ → List ℕ → Lent → Lent
pooled_into d g e h old = lent (written (least_multiple d e ∷ []) old.denominator) (written (pooled_cells d g e h) old.cells)
