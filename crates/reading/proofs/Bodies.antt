-- What the bodies of a plan that is laid out hold, as they are read. Assumes nothing.
use mathlib.Core.Path.{◌≡◌, refl, sym, ◌∙◌}
use mathlib.Core.List.{List, ◌++◌}
use Prim.Native.Nat.{ℕ, ◌+◌, ◌*◌, ◌<◌, ◌≤◌}
use native.Mathlib.Omega.{arith}
use lib.ListN.{length, get_or, take, drop}
use Rattle.byte_numbers.specs.Bytes.{number}
use Rattle.base.proofs.Tabulated.{tabulate_get_d}
use mir.Val.{Fits}
use mir.Syntax.{w64}
use Rattle.std.proofs.lemmas.List.{length-take-le}
use Rattle.base.specs.Lists.{tabulate}
use Rattle.base.specs.Buffers.{written}
use Rattle.form.specs.declared.Sizes.{Sizes}
use Rattle.weighted_arrays.specs.Plan.{array_at}
use Rattle.form.specs.Form.{rows_of, columns_of, amount_of, offset_of, cell_of, count_of, decode}
use Rattle.reading.specs.Clauses.{Sized}
use Rattle.reading.proofs.Readings.{decode_arrays, decode_weight, decode_counts, counts_length, cells_length, table_inside, body_inside, contents_room}
use Rattle.reading.proofs.Sizing.{sized_laid, arrays_are, cells_are, sized_arrays}

module _ {s : Sizes} {b : List ℕ} (z : Sized s b) where
  abbrev n : ℕ
  n = s.rows * s.columns

  n_is : n ≡ rows_of b * columns_of b
  n_is = rw z.sizes

  pub head_long : 16 ≤ length b
  head_long = omega (arith, contents_room (sized_laid z))

  -- the numbers that are read into the start of a buffer
  put_front : (x old part : List ℕ) → length x ≡ n → part ≡ x → part ++ drop n old ≡ written x old
  put_front x old part l e = rw (e, l)

  decoded_cells : (decode b).cells ≡ tabulate (rows_of b * columns_of b) (cell_of b)
  unfolding decode
  decoded_cells = refl

  module _ {at : ℕ} (a : at ≡ offset_of b 0) where
    pub table_number : (cells : List ℕ) → n ≤ length cells → (i : ℕ) → i < length (take n cells) → at + 4 * i + 4 ≤ length b
    table_number cells h i l = omega (arith, table_inside (sized_laid z), length-take-le n cells h, n_is, a)

    pub table_read : (old part : List ℕ) → n ≤ length old → length part ≡ length (take n old)
        → ((i : ℕ) → i < length part → get_or part i 0 ≡ number 4 b (at + 4 * i)) → part ++ drop n old ≡ written (decode b).cells old
    table_read old part h len each =
        let m : length part ≡ rows_of b * columns_of b = len ∙ length-take-le n old h ∙ n_is in
        let same : tabulate (rows_of b * columns_of b) (cell_of b) ≡ part = tabulate_get_d part _ 0 (cell_of b) m (λ i l. rw (← a) (sym (each i (omega arith)))) in
        put_front _ _ _ (cells_length b ∙ cells_are z) (sym same ∙ sym decoded_cells)

  module _ {k : ℕ} (there : k < s.arrays) where
    inside : k < length (decode b).arrays
    inside = rw (arrays_are z) there

    pub array_next : Fits w64 (k + 1)
    array_next = record { fits = omega (arith, sized_arrays z) }

    pub array_entry : 16 + 8 * (k + 1) ≤ length b
    array_entry = omega (arith, contents_room (sized_laid z), inside, decode_arrays b)

    pub weight_read : {x : ℕ} → x ≡ amount_of b (k + 1) → x ≡ (array_at (decode b).arrays k).weight
    weight_read e = e ∙ sym (decode_weight b k inside)

    body_there : offset_of b (k + 1) + 2 * (rows_of b * columns_of b) ≤ length b
    body_there = body_inside (sized_laid z) k (omega (arith, inside, decode_arrays b))

    module _ {at : ℕ} (a : at ≡ offset_of b (k + 1)) where
      pub array_number : (counts : List ℕ) → n ≤ length counts → (i : ℕ) → i < length (take n counts) → at + 2 * i + 2 ≤ length b
      array_number counts h i l = omega (arith, body_there, length-take-le n counts h, n_is, a)

      pub array_read : (old part : List ℕ) → n ≤ length old → length part ≡ length (take n old)
          → ((i : ℕ) → i < length part → get_or part i 0 ≡ number 2 b (at + 2 * i)) → part ++ drop n old ≡ written (array_at (decode b).arrays k).counts old
      array_read old part h len each =
          let m : length part ≡ rows_of b * columns_of b = len ∙ length-take-le n old h ∙ n_is in
          let same : tabulate (rows_of b * columns_of b) (count_of b (k + 1)) ≡ part = tabulate_get_d part _ 0 (count_of b (k + 1)) m (λ i l. rw (← a) (sym (each i (omega arith)))) in
          put_front _ _ _ (counts_length b k inside ∙ cells_are z) (sym same ∙ sym (decode_counts b k inside))
