-- What two tables that are pooled, and the pool then planned, serve for (specification, "Pooling two tables"). Assumes nothing.
use Rattle.std.specs.Prelude.{◌≡◌, List, map, ℕ, ◌*◌, get_or, take, None, Result, Ok, ⊤}
use Rattle.base.specs.Lists.{sum}
use Rattle.table.specs.Table.{total}
use Rattle.table.specs.Check.{table_refusal}
use Rattle.multiples.specs.Multiple.{LeastMultiple}
use Rattle.planning.specs.Rounds.{plan_of}
use Rattle.pool.specs.Pool.{Lent}
use Rattle.pool.specs.Promises.{AddsUp}
use Rattle.refusals.specs.declared.Refusal.{Refusal}

-- the denominator and the r by c cells that stand in the buffers after the call
abbrev pub multiple_in : Lent → ℕ
multiple_in new = get_or new.denominator 0 0

abbrev pub cells_in : ℕ → ℕ → Lent → List ℕ
cells_in r c new = take (r * c) new.cells

-- what the arrays of the plan of such a table, each times its weight, add up to at some places
abbrev pub planned_sum : ℕ → ℕ → Lent → List ℕ → ℕ
planned_sum r c new s = sum (map (λ a. a.weight * total a.counts s) (plan_of r c (multiple_in new) (cells_in r c new)).arrays)

-- the tables g over d and h over e, r by c each, that were pooled into buffers with room: the answer, and what the buffers hold
pub record ServedPool (r c d : ℕ) (g : List ℕ) (e : ℕ) (h : List ℕ) (answer : Result ⊤ Refusal) (new : Lent) : Type 0 where
  pub returned : answer ≡ Ok tt
  -- the least common multiple of the two denominators
  pub multiple : LeastMultiple d e (multiple_in new)
  -- at any places, so for a cell, a row, a column and the grand total, an expected count is the sum of the two
  pub exact : (s : List ℕ) → AddsUp (total (cells_in r c new) s) (multiple_in new) (total g s) d (total h s) e
  -- planning the pool meets none of 1 to 4, so it is planned like any other table
  pub accepted : table_refusal r c (multiple_in new) (cells_in r c new) ≡ None
  -- and an expected count in its plan is the sum of the two
  pub planned : (s : List ℕ) → AddsUp (planned_sum r c new s) (multiple_in new) (total g s) d (total h s) e
