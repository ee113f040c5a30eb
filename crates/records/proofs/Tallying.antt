-- Laws on what a tally has to be: the arrays times how many of their numbers are taken, and the table times the rounds. Assumes nothing.
use mathlib.Core.Path.{◌≡◌, refl, sym, ap, ◌∙◌}
use mathlib.Core.Bool.{Bool}
use mathlib.Core.List.{List}
use Prim.Native.Nat.{ℕ, ◌+◌, ◌*◌, ◌<◌, ◌≤◌}
use native.Mathlib.Nat.{mul-le-mul, mul-le-mul_right}
use native.Mathlib.Omega.{arith}
use lib.ListN.{length, get_or, take, replicate, length-replicate}
use lib.Seq.{get_or-take, length-take-le}
use lib.Dec.{eqb}
use mir.Val.{Fits}
use mir.Syntax.{w32, w64}
use Rattle.std.specs.List.{list_all, zip}
use Rattle.std.proofs.lemmas.List.{get_or_default}
use Rattle.std.proofs.lemmas.Slice.Zip.{length-zip, get_or-zip}
use Rattle.base.specs.Lists.{every}
use Rattle.base.specs.Buffers.{written}
use Rattle.base.proofs.StdLists.{all_listed}
use Rattle.base.proofs.Every.{every_place, every_ext}
use Rattle.base.proofs.Buffers.{written_at, written_length}
use Rattle.form.specs.declared.Sizes.{Sizes}
use Rattle.weighted_arrays.specs.Plan.{array_at, cell_count}
use Rattle.form.specs.Form.{decode}
use Rattle.reading.specs.Clauses.{Sized}
use Rattle.reading.proofs.Readings.{counts_length, cells_length}
use Rattle.reading.proofs.Sizing.{arrays_are, cells_are, sized_few}
use Rattle.weighted_arrays.specs.Clauses.{max_product, Addable, Increased, factored, SumsTo}
use Rattle.weighted_arrays.proofs.Weighting.{sums_none, sums_addable, sums_more}
use Rattle.reading.proofs.Scratch.{counts_read}
use Rattle.records.specs.Clauses.{ArrayAddable, ArraysAdded, Compared, tally_met, tally_fits}
use Rattle.records.proofs.Fitting.{arrays_few, eqb_sym}

-- an array's counts, as they are read into a scratch and added to the sums
module _ {s : Sizes} {b : List ℕ} (z : Sized s b) {k : ℕ} {sums : List ℕ} (a : ArrayAddable s b k sums) {scratch : List ℕ}
    (e : scratch ≡ written (array_at (decode b).arrays k).counts (replicate 144 0)) where
  pub read_addable : Addable (take (s.rows * s.columns) scratch) sums
  read_addable = rw (counts_read z a.there e) a.addable

  pub read_added : {factor : ℕ} {new : List ℕ} → Increased factor (take (s.rows * s.columns) scratch) sums new
      → Increased factor (array_at (decode b).arrays k).counts sums new
  read_added i = rw (counts_read z a.there e) at i

-- array by array, each with its factor
module _ {s : Sizes} {b : List ℕ} (z : Sized s b) where
  pub added_none : (f : ℕ → ℕ) → SumsTo f (decode b).arrays (cell_count (decode b)) 0 (replicate 144 0)
  added_none f = sums_none _ _ _ (omega (arith, cells_are z, sized_few z))

  module _ {f : ℕ → ℕ} {k n : ℕ} {sums : List ℕ} (p : SumsTo f (decode b).arrays (cell_count (decode b)) k sums) (i : n ≡ length (decode b).arrays) where
    module _ (h : k < n) where
      many : length (array_at (decode b).arrays k).counts ≡ cell_count (decode b)
      many = counts_length b k (rw i at h)

      pub array_addable : ArrayAddable s b k sums
      array_addable = record {
        there = omega (arith, arrays_are z);
        addable = sums_addable p many (omega (arith, cells_are z, sized_few z)) (omega (arith, arrays_few z));
      }

      pub added_more : {factor : ℕ} {new : List ℕ} → factor ≡ f k → Increased factor (array_at (decode b).arrays k).counts sums new
          → SumsTo f (decode b).arrays (cell_count (decode b)) (k + 1) new
      added_more e q = sums_more p many q e refl

    pub added_all : k ≤ n → n ≤ k → SumsTo f (decode b).arrays (cell_count (decode b)) (length (decode b).arrays) sums
    added_all h q = let e : k ≡ length (decode b).arrays = omega arith in rw e at p

-- a number of a tally, its cell and its sum
abbrev pub triples : List ℕ → List ℕ → List ℕ → List ((ℕ × ℕ) × ℕ)
triples cells sums tally = zip (zip tally cells) sums

abbrev test : ℕ → List ℕ → List ℕ → List ℕ → ℕ → Bool
test rounds cells sums tally i = eqb (rounds * get_or cells i 0 + get_or sums i 0) (get_or tally i 0)

module _ {cells sums tally : List ℕ} (c : Compared cells sums tally) where
  pairs_length : length (zip tally cells) ≡ length tally
  pairs_length = length-zip tally cells ∙ omega (arith, c.few, c.cells_length)

  triples_length : length (triples cells sums tally) ≡ length tally
  triples_length = length-zip (zip tally cells) sums ∙ omega (arith, pairs_length, c.few, c.sums_length)

  triple_at : (k : ℕ) → k < length tally → (d : (ℕ × ℕ) × ℕ) → get_or (triples cells sums tally) k d ≡ ((get_or tally k d.0.0, get_or cells k d.0.1), get_or sums k d.1)
  triple_at k h d =
      get_or-zip (zip tally cells) sums k d (omega (arith, pairs_length)) (omega (arith, c.few, c.sums_length))
      ∙ ap (λ (p : ℕ × ℕ). (p, get_or sums k d.1)) (get_or-zip tally cells k d.0 h (omega (arith, c.few, c.cells_length)))

  -- what the code tests of each is the test of its place
  pub met_is : (rounds : ℕ) → list_all (λ (x : (ℕ × ℕ) × ℕ). eqb (rounds * x.0.1 + x.1) x.0.0) (triples cells sums tally) ≡ tally_met rounds cells sums tally
  unfolding tally_met
  met_is rounds =
      let met : (ℕ × ℕ) × ℕ → Bool = λ x. eqb (rounds * x.0.1 + x.1) x.0.0 in
      all_listed met (triples cells sums tally)
      ∙ sym (every_place met (triples cells sums tally) ((0, 0), 0))
      ∙ ap (λ (n : ℕ). every n (λ i. met (get_or (triples cells sums tally) i ((0, 0), 0)))) triples_length
      ∙ every_ext (length tally) _ (test rounds cells sums tally) (λ i h. ap met (triple_at i h ((0, 0), 0)))

  -- and what it adds up fits
  pub sum_small : {x y z : ℕ} (k : ℕ) → k < length (triples cells sums tally) → ◌≡◌ {A = (ℕ × ℕ) × ℕ} ((x, y), z) (get_or (triples cells sums tally) k ((x, y), z))
      → z ≤ 170 * max_product
  sum_small {x} {y} {z} k h e =
      let l : k < length tally = omega (arith, triples_length) in
      let is : z ≡ get_or sums k z = ap (λ (p : (ℕ × ℕ) × ℕ). p.1) (e ∙ triple_at k l ((x, y), z)) in
      omega (arith, is, c.small k l, get_or_default sums k z 0 (omega (arith, c.few, c.sums_length)))

module _ {t x y : ℕ} (h : t < 65536) (f : Fits w32 y) (e : x ≡ y) where
  product : t * x ≤ 65535 * 4294967295
  product = let a : t ≤ 65535 = omega arith in let b : x ≤ 4294967295 = omega (arith, f.fits) in mul-le-mul a b

  pub times_fits : Fits w64 (t * x)
  times_fits = record { fits = omega (arith, product) }

  pub sum_fits : {z : ℕ} → z ≤ 170 * max_product → Fits w64 (t * x + z)
  sum_fits l = record { fits = omega (arith, product) }

-- the table in a scratch, and the tally up to it
module _ {s : Sizes} {b : List ℕ} (z : Sized s b) (tally : List ℕ) (room : s.rows * s.columns ≤ length tally) where
  abbrev n : ℕ
  n = s.rows * s.columns

  pub tally_length : {m : ℕ} → m ≤ s.rows * s.columns → m ≡ length (take m tally)
  tally_length h = sym (length-take-le _ tally (omega (arith, room)))

  module _ {f : ℕ → ℕ} {sums scratch : List ℕ} (a : SumsTo f (decode b).arrays (cell_count (decode b)) (length (decode b).arrays) sums)
      (e : scratch ≡ written (decode b).cells (replicate 144 0)) where
    long : length (decode b).cells ≡ n
    long = cells_length b ∙ cells_are z

    small : (i : ℕ) → i < n → get_or sums i 0 ≤ 170 * max_product
    small i h = omega (arith, a.small i (omega (arith, cells_are z)), mul-le-mul_right max_product (arrays_few z))

    zeros : length (replicate {A = ℕ} 144 0) ≡ 144
    zeros = length-replicate {A = ℕ} 144 0

    pub compared : {m : ℕ} → m ≤ s.rows * s.columns → Compared scratch sums (take m tally)
    compared h = record {
      few = omega (arith, tally_length h, sized_few z);
      cells_length = ap length e ∙ written_length (decode b).cells (replicate 144 0) long (omega (arith, sized_few z, zeros)) ∙ zeros;
      sums_length = a.len;
      small = λ i l. small i (omega (arith, tally_length h));
    }

  pub tally_is : (rounds : ℕ) (taken : List ℕ) {sums scratch : List ℕ} → ArraysAdded b taken sums → scratch ≡ written (decode b).cells (replicate 144 0)
      → (x : Bool) → x ≡ tally_met rounds scratch sums (take (s.rows * s.columns) tally) → x ≡ tally_fits rounds (decode b) taken tally
  unfolding tally_met tally_fits
  tally_is rounds taken {sums} {scratch} a e x q =
      q ∙ ap (λ (m : ℕ). every m (test rounds scratch sums (take n tally))) (sym (tally_length (omega arith)) ∙ sym (cells_are z))
      ∙ every_ext (cell_count (decode b)) _ _ (λ i l.
      let h : i < n = omega (arith, cells_are z) in
      rw (get_or-take n tally i 0 h, a.is i l, e, written_at (decode b).cells (replicate 144 0) (long a e) i h)
      (eqb_sym (rounds * get_or (decode b).cells i 0 + factored (λ j. get_or taken j 0) (decode b).arrays (length (decode b).arrays) i) (get_or tally i 0)))
