-- A stored plan says what it was made of, and is laid out as form 1 asks. Assumes nothing.
use mathlib.Core.Path.{◌≡◌, refl}
use mathlib.Core.Bool.{true}
use mathlib.Core.List.{List, []}
use Prim.Native.Nat.{ℕ, suc, ◌+◌, ◌*◌, ◌^◌, ◌<◌, ◌≤◌}
use native.Mathlib.Omega.{arith}
use lib.ListN.{length, get_or}
use lib.Dec.{eqb}
use borrow.Author.Tests.{le-leb, eq-eqb}
use Rattle.base.specs.Lists.{tabulate}
use Rattle.base.proofs.Lists.{all_tabulate}
use Rattle.base.proofs.Tabulated.{tabulate_get_d}
use Rattle.table.specs.Table.{max_denominator, max_arrays}
use Rattle.table.specs.Clauses.{Shape}
use Rattle.weighted_arrays.specs.Plan.{Weighted, Plan, array_at}
use Rattle.byte_numbers.specs.Bytes.{bytes, number}
use Rattle.form.specs.Form.{head, contents_entry, body_at, amount_in, encode, decode, head_right, laid_out, form_of, rows_of, columns_of, arrays_of, zero_of, amount_of, offset_of, denominator_of, cell_of, count_of}
use Rattle.base.proofs.Joins.{holds_left, holds_right}
use Rattle.form.proofs.Layouts.{offset_fits}
use Rattle.byte_numbers.proofs.Held.{length_bytes, number_held}
use Rattle.form.proofs.Encodings.{encode_length, holds_entry, holds_cell, holds_count}

-- an array of n counts whose numbers fit their bytes
pub record FitArray (n : ℕ) (a : Weighted) : Type 0 where
  pub weight : a.weight < 2 ^ 32
  pub counts : length a.counts ≡ n
  pub count : (i : ℕ) → i < n → get_or a.counts i 0 < 2 ^ 16

-- a plan within the bounds whose numbers fit their bytes
pub record WellShaped (p : Plan) : Type 0 where
  pub shape : Shape p.rows p.columns p.cells
  pub some_denominator : 1 ≤ p.denominator
  pub denominator : p.denominator ≤ max_denominator
  pub cell : (i : ℕ) → i < p.rows * p.columns → get_or p.cells i 0 < 2 ^ 32
  pub some_arrays : 1 ≤ length p.arrays
  pub arrays : length p.arrays ≤ max_arrays
  pub array : (k : ℕ) → k < length p.arrays → FitArray (p.rows * p.columns) (array_at p.arrays k)

module _ {p : Plan} (w : WellShaped p) where
  abbrev r : ℕ
  r = p.rows

  abbrev c : ℕ
  c = p.columns

  abbrev k : ℕ
  k = length p.arrays

  abbrev b : List ℕ
  b = encode p

  -- the head
  form_is : form_of b ≡ 1
  unfolding encode head bytes number
  form_is = refl

  zero_is : zero_of b ≡ 0
  unfolding encode head bytes number
  zero_is = refl

  rows_is : rows_of b ≡ r
  unfolding encode head bytes number
  rows_is = omega (arith, w.shape.rows)

  columns_is : columns_of b ≡ c
  unfolding encode head bytes number
  columns_is = omega (arith, w.shape.columns)

  arrays_is : arrays_of b ≡ k
  unfolding encode head bytes number
  arrays_is = omega (arith, w.arrays)

  -- the contents
  amount_is : (i : ℕ) → i ≤ k → amount_in p i < 2 ^ 32 → amount_of b i ≡ amount_in p i
  unfolding contents_entry
  amount_is i l f = number_held 4 (holds_left (bytes 4 (body_at r c k i)) (holds_entry p i l)) f

  offset_is : (i : ℕ) → i ≤ k → offset_of b i ≡ body_at r c k i
  unfolding contents_entry
  offset_is i l =
      number_held 4 (holds_right (bytes 4 (amount_in p i)) (holds_entry p i l) (omega (arith, length_bytes 4 (amount_in p i))))
      (offset_fits (record { rows = w.shape.rows; columns = w.shape.columns; arrays = w.arrays }) i l)

  denominator_is : denominator_of b ≡ p.denominator
  denominator_is = amount_is 0 (omega arith) (omega (arith, w.denominator))

  -- the bodies
  cells_are : tabulate (r * c) (cell_of b) ≡ p.cells
  cells_are = tabulate_get_d p.cells (r * c) 0 (cell_of b) w.shape.cells
      (λ i l. rw (offset_is 0 (omega arith)) (number_held 4 (holds_cell p i l) (w.cell i l)))

  counts_are : (j : ℕ) → j < k → tabulate (r * c) (count_of b (suc j)) ≡ (array_at p.arrays j).counts
  counts_are j l = tabulate_get_d (array_at p.arrays j).counts (r * c) 0 (count_of b (suc j)) (w.array j l).counts
      (λ i m. rw (offset_is (suc j) l) (number_held 2 (holds_count p j i l m) ((w.array j l).count i m)))

  arrays_are : tabulate k (λ j. record { weight = amount_of b (suc j); counts = tabulate (r * c) (count_of b (suc j)) }) ≡ p.arrays
  arrays_are = tabulate_get_d p.arrays k (record { weight = 0; counts = [] }) _ refl (λ j l. rw (amount_is (suc j) l (w.array j l).weight, counts_are j l) refl)

  pub decode_encode : decode b ≡ p
  unfolding decode
  decode_encode = simp (rows_is, columns_is, arrays_is, denominator_is, cells_are, arrays_are)

  pub encode_laid_out : laid_out b ≡ true
  unfolding head_right laid_out
  encode_laid_out =
      let t = w.shape in
      let offsets = all_tabulate (λ i. eqb (offset_of b i) (body_at r c k i)) (k + 1) (λ i. i) (λ i l. eq-eqb _ _ (offset_is i (omega arith))) in
      simp (
        form_is,
        zero_is,
        rows_is,
        columns_is,
        arrays_is,
        denominator_is,
        le-leb 1 r t.some_rows,
        le-leb r 12 t.rows,
        le-leb 1 c t.some_columns,
        le-leb c 12 t.columns,
        le-leb 1 k w.some_arrays,
        le-leb k 170 w.arrays,
        le-leb 1 p.denominator w.some_denominator,
        le-leb p.denominator 65535 w.denominator,
        eq-eqb _ _ (encode_length p),
        offsets,
      )
