-- What the readers of a view say on each way through their tests, and of a plan that opens. Assumes nothing.
use Rattle.std.specs.Prelude.{Some, None, Ok}
use mathlib.Core.Path.{◌≡◌, sym, ap, ◌∙◌}
use mathlib.Core.Bool.{true, false, ◌&&◌, and-false}
use mathlib.Core.List.{List}
use Prim.Native.Nat.{ℕ, ◌+◌, ◌*◌, ◌-◌, ◌<◌, ◌≤◌}
use native.Mathlib.Nat.{mul-le-mul}
use native.Mathlib.Omega.{arith}
use lib.Arith.{digits_lt}
use lib.ListN.{length, get_or}
use lib.Dec.{leb, ltb}
use mir.Val.{Fits}
use mir.Syntax.{w64}
use borrow.Author.Tests.{le-leb, lt-ltb, leb-true, ltb-true}
use Rattle.base.proofs.Lists.{get_d_tabulate, and_left, and_right, and_both}
use Rattle.table.specs.Check.{up_to}
use Rattle.weighted_arrays.specs.Plan.{array_at}
use Rattle.form.specs.Form.{rows_of, columns_of, arrays_of, amount_of, count_of, decode}
use Rattle.view.specs.Find.{found_weight, found_count}
use Rattle.form.specs.Clauses.{Laid}
use Rattle.form.proofs.Layouts.{laid}
use Rattle.reading.proofs.Readings.{decode_arrays, decode_weight, decode_counts, contents_room, body_inside}
use Rattle.view.proofs.Finds.{weight_found, count_there}
use Rattle.opening.specs.Open.{Opens, open_answer}
use Rattle.opening.proofs.Opening.{opens_layout, opens_answer}
use Rattle.form.specs.declared.Sizes.{Sizes}
use Rattle.view.specs.View.{has_cell, weight_answer, count_answer, Readers}

-- the tests of an array's number
module _ (b : List ℕ) (s : Sizes) (k : ℕ) where
  pub no_weight : false ≡ up_to s.arrays k → None ≡ weight_answer b (Ok s) k
  unfolding weight_answer
  no_weight h = simp (sym h)

  pub no_array : (p q : ℕ) → false ≡ up_to s.arrays k → None ≡ count_answer b (Ok s) k p q
  unfolding count_answer
  no_array p q h = simp (sym h)

  module _ (h : true ≡ up_to s.arrays k) where
    pub weight_read : weight_answer b (Ok s) k ≡ found_weight b k
    unfolding weight_answer
    weight_read = simp (sym h)

    module _ (p q : ℕ) where
      pub no_cell : false ≡ has_cell s p q → None ≡ count_answer b (Ok s) k p q
      unfolding count_answer
      no_cell l = simp (sym l, and-false)

      pub count_read : true ≡ has_cell s p q → count_answer b (Ok s) k p q ≡ found_count b k (p * s.columns + q)
      unfolding count_answer
      count_read l = simp (sym h, sym l)

-- the tests of a cell's row and column
module _ (s : Sizes) (p q : ℕ) (l : true ≡ has_cell s p q) where
  pub cell_small : (p < 12) × (q < 12) × (s.columns ≤ 12)
  cell_small =
      let a = ltb p s.rows && ltb p 12 in
      let c = ltb q s.columns in
      let d = leb s.columns 12 in
      let all : (a && c && d) ≡ true = sym l in
      let two : (a && c) ≡ true = and_left (a && c) d all in
      let small : s.columns ≤ 12 = leb-true _ _ (and_right (a && c) d all) in
      (ltb-true _ _ (and_right (ltb p s.rows) (ltb p 12) (and_left a c two)), omega (arith, ltb-true q s.columns (and_right a c two)), small)

  product : p * s.columns ≤ 144
  product = let h : p ≤ 12 = omega (arith, cell_small.0) in mul-le-mul h cell_small.2

  pub row_fits : Fits w64 (p * s.columns)
  row_fits = record { fits = omega (arith, product) }

  pub place_fits : Fits w64 (p * s.columns + q)
  place_fits = record { fits = omega (arith, product, cell_small.1) }

-- of a plan that opens they find every weight and count
module _ (b : List ℕ) (h : Opens b) where
  is_laid : Laid b
  is_laid = laid b (opens_layout b h)

  module _ (k : ℕ) (some : 1 ≤ k) (last : k ≤ arrays_of b) where
    -- counted from 0 it is array k - 1
    from_zero : k - 1 + 1 ≡ k
    from_zero = omega arith

    there : k - 1 < length (decode b).arrays
    there = omega (arith, decode_arrays b)

    has : up_to (arrays_of b) k ≡ true
    has = and_both (le-leb 1 k some) (le-leb k (arrays_of b) last)

    finds_weight : weight_answer b (open_answer b) k ≡ Some (array_at (decode b).arrays (k - 1)).weight
    unfolding weight_answer
    finds_weight =
        let is : (array_at (decode b).arrays (k - 1)).weight ≡ amount_of b k = decode_weight b (k - 1) there ∙ ap (amount_of b) from_zero in
        rw (opens_answer b h) (simp has (sym (weight_found b k (omega (arith, is_laid.sizes.arrays)) (omega (arith, contents_room is_laid)) _ is)))

    module _ (p q : ℕ) (hp : p < rows_of b) (hq : q < columns_of b) where
      abbrev place : ℕ
      place = p * columns_of b + q

      inside : place < rows_of b * columns_of b
      inside = digits_lt hp hq

      finds_count : count_answer b (open_answer b) k p q ≡ Some (get_or (array_at (decode b).arrays (k - 1)).counts place 0)
      unfolding count_answer
      finds_count =
          let l = is_laid in
          let is : get_or (array_at (decode b).arrays (k - 1)).counts place 0 ≡ count_of b k place =
          ap (λ (n : List ℕ). get_or n place 0) (decode_counts b (k - 1) there) ∙ get_d_tabulate _ (count_of b (k - 1 + 1)) place 0 inside ∙ ap (λ (n : ℕ). count_of b n place) from_zero in
          let cells : rows_of b * columns_of b ≤ 144 = mul-le-mul l.sizes.rows l.sizes.columns in
          let found = count_there b k place (omega (arith, l.sizes.arrays)) (omega (arith, contents_room l)) (omega (arith, inside))
          (omega (arith, inside, rw from_zero at (body_inside l (k - 1) (omega arith)))) _ is in
          rw (opens_answer b h)
          (simp (
            has,
            lt-ltb p (rows_of b) hp,
            lt-ltb p 12 (omega (arith, l.sizes.rows)),
            lt-ltb q (columns_of b) hq,
            le-leb (columns_of b) 12 l.sizes.columns,
          )
          (sym found))

  pub finds_all : Readers b
  finds_all = record {
    weight = finds_weight;
    count = λ k p q some last. finds_count k some last p q;
  }
