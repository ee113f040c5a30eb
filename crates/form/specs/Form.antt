-- Stored plan, form 1 (specification, "Stored plan, form 1"). Assumes nothing.
use Rattle.std.specs.Prelude.{Bool, ◌&&◌, List, ◌++◌, ℕ, zero, suc, ◌+◌, ◌*◌, length, get_or, eqb}
use Rattle.base.specs.Lists.{tabulate, join_to, every}
use Rattle.table.specs.Table.{max_rows, max_columns, max_arrays, max_denominator}
use Rattle.table.specs.Check.{up_to}
use Rattle.form.specs.declared.Sizes.{Sizes}
use Rattle.weighted_arrays.specs.Plan.{Plan, array_at}
use Rattle.byte_numbers.specs.Bytes.{bytes, number}

-- where body i of a plan with k arrays begins: 0 is the table's, with 4 bytes a cell, i is array i's, with 2; they follow one another
abbrev pub body_at : ℕ → ℕ → ℕ → ℕ → ℕ
body_at r c k zero = 8 + 8 * (k + 1)
body_at r c k (suc i) = 8 + 8 * (k + 1) + 4 * (r * c) + i * (2 * (r * c))

-- the length of a plan with k arrays
abbrev pub plan_length : ℕ → ℕ → ℕ → ℕ
plan_length r c k = 8 + 8 * (k + 1) + 4 * (r * c) + k * (2 * (r * c))

-- the shortest plan and the longest
abbrev pub min_length : ℕ
min_length = 30

abbrev pub max_length : ℕ
max_length = 50912

-- the head: form 1 in two bytes, rows, columns, the number of arrays in two bytes, and two of zero. After it the contents, an entry of a number and an
-- offset, four bytes each: D and where the table begins, and for each array its weight and where it begins. Then the table and the arrays
unfoldable pub head : ℕ → ℕ → ℕ → List ℕ
head r c k = bytes 2 1 ++ bytes 1 r ++ bytes 1 c ++ bytes 2 k ++ bytes 2 0

unfoldable pub contents_entry : ℕ → ℕ → List ℕ
contents_entry amount offset = bytes 4 amount ++ bytes 4 offset

-- the number beside the offset in entry k of the contents: D, or array k's weight
abbrev pub amount_in : Plan → ℕ → ℕ
amount_in p zero = p.denominator
amount_in p (suc k) = (array_at p.arrays k).weight

unfoldable pub encode : Plan → List ℕ
encode p =
    let r = p.rows in
    let c = p.columns in
    let k = length p.arrays in
    head r c k
    ++ join_to (k + 1) (λ i. contents_entry (amount_in p i) (body_at r c k i))
    ++ join_to (r * c) (λ i. bytes 4 (get_or p.cells i 0))
    ++ join_to k (λ j. join_to (r * c) (λ i. bytes 2 (get_or (array_at p.arrays j).counts i 0)))

-- what the fields of some bytes say, wherever they come from; a byte that is not there is 0
abbrev pub form_of : List ℕ → ℕ
form_of b = number 2 b 0

abbrev pub rows_of : List ℕ → ℕ
rows_of b = number 1 b 2

abbrev pub columns_of : List ℕ → ℕ
columns_of b = number 1 b 3

abbrev pub arrays_of : List ℕ → ℕ
arrays_of b = number 2 b 4

abbrev pub zero_of : List ℕ → ℕ
zero_of b = number 2 b 6

-- the two numbers of entry k of the contents
abbrev pub amount_of : List ℕ → ℕ → ℕ
amount_of b k = number 4 b (8 + 8 * k)

abbrev pub offset_of : List ℕ → ℕ → ℕ
offset_of b k = number 4 b (12 + 8 * k)

abbrev pub denominator_of : List ℕ → ℕ
denominator_of b = amount_of b 0

-- the sizes that the fields say
abbrev pub sizes_of : List ℕ → Sizes
sizes_of b = record { rows = rows_of b; columns = columns_of b; arrays = arrays_of b; denominator = denominator_of b }

-- and the length of a plan of such sizes
abbrev pub length_of : List ℕ → ℕ
length_of b = plan_length (rows_of b) (columns_of b) (arrays_of b)

-- cell i of the table, and count i of array k, from where the entry of the contents points
abbrev pub cell_of : List ℕ → ℕ → ℕ
cell_of b i = number 4 b (offset_of b 0 + 4 * i)

abbrev pub count_of : List ℕ → ℕ → ℕ → ℕ
count_of b k i = number 2 b (offset_of b k + 2 * i)

-- the plan that the bytes hold
unfoldable pub decode : List ℕ → Plan
decode b =
    let n = rows_of b * columns_of b in
    record {
      rows = rows_of b;
      columns = columns_of b;
      denominator = denominator_of b;
      cells = tabulate n (cell_of b);
      arrays = tabulate (arrays_of b) (λ k. record { weight = amount_of b (suc k); counts = tabulate n (count_of b (suc k)) });
    }

-- form, zero field and the bounds of the sizes, which the first eight bytes say; and of D as well
abbrev pub start_right : List ℕ → Bool
start_right b = eqb (form_of b) 1 && eqb (zero_of b) 0 && up_to max_rows (rows_of b) && up_to max_columns (columns_of b) && up_to max_arrays (arrays_of b)

unfoldable pub head_right : List ℕ → Bool
head_right b = start_right b && up_to max_denominator (denominator_of b)

-- head, length and offsets are right: else 5
unfoldable pub laid_out : List ℕ → Bool
laid_out b =
    head_right b && eqb (length b) (length_of b)
    && every (arrays_of b + 1) (λ k. eqb (offset_of b k) (body_at (rows_of b) (columns_of b) (arrays_of b) k))
