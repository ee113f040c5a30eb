-- What the functions of this crate require of each other, and what those above may rely on. Assumes nothing.
use Rattle.std.specs.Prelude.{◌≡◌, Bool, List, ℕ, ◌+◌, ◌*◌, ◌≤◌, length, eqb}
use Rattle.base.specs.Lists.{every}
use Rattle.table.specs.Table.{max_rows, max_columns, max_arrays, max_denominator}
use Rattle.form.specs.Form.{body_at, plan_length, rows_of, columns_of, arrays_of, offset_of, denominator_of}

-- sizes within the bounds
pub record Bounded (r c k : ℕ) : Type 0 where
  pub rows : r ≤ max_rows
  pub columns : c ≤ max_columns
  pub arrays : k ≤ max_arrays

-- k entries after the first stand in the contents
pub record Contents (r c k : ℕ) (b : List ℕ) : Type 0 where
  pub sizes : Bounded r c k
  pub room : 16 + 8 * k ≤ length b

-- each entry of the contents points to its body
abbrev pub offsets_right : List ℕ → ℕ → ℕ → ℕ → Bool
offsets_right b r c k = every (k + 1) (λ i. eqb (offset_of b i) (body_at r c k i))

-- what is known of bytes that are laid out
pub record Laid (b : List ℕ) : Type 0 where
  pub some_rows : 1 ≤ rows_of b
  pub some_columns : 1 ≤ columns_of b
  pub some_arrays : 1 ≤ arrays_of b
  pub sizes : Bounded (rows_of b) (columns_of b) (arrays_of b)
  pub some_denominator : 1 ≤ denominator_of b
  pub denominator : denominator_of b ≤ max_denominator
  pub len : length b ≡ plan_length (rows_of b) (columns_of b) (arrays_of b)
  pub offsets : (i : ℕ) → i ≤ arrays_of b → offset_of b i ≡ body_at (rows_of b) (columns_of b) (arrays_of b) i
