-- What holds of the pool of every two tables that are not refused (specification, "Pooling two tables"). Assumes nothing.
use Rattle.std.specs.Prelude.{◌≡◌, List, ℕ, ◌+◌, ◌*◌, None}
use Rattle.table.specs.Table.{total}
use Rattle.table.specs.Check.{table_refusal}
use Rattle.multiples.specs.Multiple.{least_multiple, LeastMultiple}
use Rattle.pool.specs.Pool.{pooled_cells}

-- x over m is the sum of y over d and z over e; multiplied out, since these are whole numbers
abbrev pub AddsUp : ℕ → ℕ → ℕ → ℕ → ℕ → ℕ → Type 0
AddsUp x m y d z e = x * (d * e) ≡ (y * e + z * d) * m

-- what holds of the tables g over d and h over e, r by c each, and of their pool
pub record Pools (r c d : ℕ) (g : List ℕ) (e : ℕ) (h : List ℕ) : Type 0 where
  -- the denominator is the least common multiple of the two
  pub multiple : LeastMultiple d e (least_multiple d e)
  -- the pooled expected count is the sum of the two, exactly: at any places, so for a cell, a row, a column and the grand total
  pub exact : (s : List ℕ) → AddsUp (total (pooled_cells d g e h) s) (least_multiple d e) (total g s) d (total h s) e
  -- the pool is a table that is accepted
  pub accepted : table_refusal r c (least_multiple d e) (pooled_cells d g e h) ≡ None
