-- The sizes of a table, and the places of its cells. Assumes nothing.
use mathlib.Core.Path.{◌≡◌}
use mathlib.Core.List.{List}
use Prim.Native.Nat.{ℕ, ◌+◌, ◌*◌, ◌/◌, ◌%◌, ◌≤◌, ◌<◌}
use native.Mathlib.Nat.{mul-le-mul, div-add-mod', mod-lt, div-lt_iff_lt-mul}
use native.Mathlib.Omega.{arith}
use lib.ListN.{length}
use Rattle.table.specs.Clauses.{Shape}

-- the row and the column of the cell at place k
pub record PlaceOf (r c k : ℕ) : Type 0 where
  pub row : k / c < r
  pub column : k % c < c
  pub is : k / c * c + k % c ≡ k
  pub row_small : k / c < 12
  pub column_small : k % c < 12

module _ {r c : ℕ} {g : List ℕ} (s : Shape r c g) where
  pub few_cells : r * c ≤ 144
  few_cells = mul-le-mul s.rows s.columns

  pub place_of : {k : ℕ} → k < r * c → PlaceOf r c k
  place_of {k} h =
      let p : k / c < r = (div-lt_iff_lt-mul s.some_columns).1 h in
      let q : k % c < c = mod-lt k s.some_columns in
      record { row = p; column = q; is = div-add-mod' k c; row_small = omega (arith, s.rows); column_small = omega (arith, s.columns) }

  -- a list of r by c counts has the shape of the cells
  pub shape_of : (n : List ℕ) → length n ≡ r * c → Shape r c n
  shape_of n e = record { some_rows = s.some_rows; rows = s.rows; some_columns = s.some_columns; columns = s.columns; cells = e }
