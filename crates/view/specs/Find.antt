-- What stands at a place of any bytes. Assumes nothing.
use Rattle.std.specs.Prelude.{Bool, cond, ◌&&◌, List, ℕ, ◌+◌, ◌*◌, length, leb, ltb, Option, Some, None}
use Rattle.table.specs.Table.{max_arrays, max_cells}
use Rattle.form.specs.Form.{amount_of, offset_of, count_of}

-- array k, of as many as a plan may have, has its entry of the contents among the bytes
abbrev pub has_entry : List ℕ → ℕ → Bool
has_entry b k = leb k max_arrays && leb (16 + 8 * k) (length b)

unfoldable pub found_weight : List ℕ → ℕ → Option ℕ
found_weight b k = cond (has_entry b k) (Some (amount_of b k)) None

-- count i, of as many as a table may have, of array k, if it stands among the bytes
unfoldable pub found_count : List ℕ → ℕ → ℕ → Option ℕ
found_count b k i = cond (has_entry b k && ltb i max_cells && leb (offset_of b k + 2 * i + 2) (length b)) (Some (count_of b k i)) None
