-- What the sizes of a plan that is laid out say of what it holds. Assumes nothing.
use mathlib.Core.Path.{◌≡◌, refl, ◌∙◌}
use mathlib.Core.List.{List}
use Prim.Native.Nat.{ℕ, ◌*◌, ◌≤◌}
use native.Mathlib.Omega.{arith}
use lib.ListN.{length}
use mir.Val.{Fits}
use mir.Syntax.{w64}
use Rattle.table.specs.Clauses.{Shape}
use Rattle.form.specs.declared.Sizes.{Sizes}
use Rattle.weighted_arrays.specs.Plan.{cell_count}
use Rattle.form.specs.Form.{decode}
use Rattle.form.specs.Clauses.{Laid}
use Rattle.reading.specs.Clauses.{Sized}
use Rattle.form.proofs.Layouts.{laid, cells_few}
use Rattle.reading.proofs.Readings.{decode_arrays}

module _ {s : Sizes} {b : List ℕ} (z : Sized s b) where
  pub sized_laid : Laid b
  sized_laid = laid b z.laid_out_is

  pub arrays_are : length (decode b).arrays ≡ s.arrays
  arrays_are = rw z.sizes (decode_arrays b)

  pub cells_are : cell_count (decode b) ≡ s.rows * s.columns
  unfolding decode
  cells_are = rw z.sizes refl

  pub rows_are : (decode b).rows ≡ s.rows
  unfolding decode
  rows_are = rw z.sizes refl

  pub columns_are : (decode b).columns ≡ s.columns
  unfolding decode
  columns_are = rw z.sizes refl

  pub denominator_is : (decode b).denominator ≡ s.denominator
  unfolding decode
  denominator_is = rw z.sizes refl

  pub sized_few : s.rows * s.columns ≤ 144
  sized_few = rw z.sizes (cells_few sized_laid.sizes)

  pub sized_fits : Fits w64 (s.rows * s.columns)
  sized_fits = record { fits = omega (arith, sized_few) }

  pub sized_arrays : s.arrays ≤ 170
  sized_arrays = rw z.sizes sized_laid.sizes.arrays

  pub sized_some : 1 ≤ s.denominator
  sized_some = rw z.sizes sized_laid.some_denominator

  pub sized_denominator : s.denominator ≤ 65535
  sized_denominator = rw z.sizes sized_laid.denominator

  pub sized_shape : (n : List ℕ) → length n ≡ cell_count (decode b) → Shape s.rows s.columns n
  sized_shape n e =
      let l = sized_laid in
      record {
        some_rows = rw z.sizes l.some_rows;
        rows = rw z.sizes l.sizes.rows;
        some_columns = rw z.sizes l.some_columns;
        columns = rw z.sizes l.sizes.columns;
        cells = e ∙ cells_are;
      }
