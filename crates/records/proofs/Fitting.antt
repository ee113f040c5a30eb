-- Laws on the test of a record: the numbers taken of each array, the count and the tally by them, and where a campaign can stand. Assumes nothing.
use Rattle.std.specs.Prelude.{Ok}
use mathlib.Core.Path.{◌≡◌, refl, sym, ap, ◌∙◌}
use mathlib.Core.Bool.{false, ◌&&◌}
use mathlib.Core.List.{List, []}
use Prim.Native.Nat.{ℕ, zero, suc, ◌+◌, ◌-◌, ◌*◌, ◌<◌, ◌≤◌}
use native.Mathlib.Nat.{mul_comm}
use native.Mathlib.Decide.{ℕ_discrete}
use native.Mathlib.Numerals.{add-one}
use native.Mathlib.Omega.{arith}
use lib.ListN.{length, get_or, set, take, replicate, length-replicate}
use lib.Seq.{length-take-le, get_or-take}
use lib.Dec.{eqb}
use mir.Val.{Fits}
use mir.Syntax.{w64}
use borrow.Author.Tests.{ne_eqb}
use Rattle.std.specs.List.{sum}
use Rattle.std.proofs.lemmas.List.Sums.{sum_by_more}
use Rattle.base.specs.Lists.{tabulate, sum_to, every}
use Rattle.base.specs.Clauses.{Filled}
use Rattle.base.proofs.Lists.{length_tabulate, get_d_tabulate}
use Rattle.base.proofs.Sums.{sum_ext, sum_mul, sum_ones, sum_add_range, sum_places}
use Rattle.base.proofs.Every.{every_ext}
use Rattle.base.proofs.SumLoops.{sum_more}
use Rattle.base.proofs.Filling.{filled_none, front_more, front_all}
use Rattle.base.proofs.Buffers.{written_at, written_length}
use Rattle.form.specs.declared.Sizes.{Sizes}
use Rattle.weighted_arrays.specs.Plan.{Weighted, array_at, cell_count, array_for, weights_before}
use Rattle.form.specs.Form.{decode}
use Rattle.reading.specs.Clauses.{Sized}
use Rattle.reading.proofs.Sizing.{arrays_are, denominator_is, sized_arrays, sized_denominator}
use Rattle.weighted_arrays.specs.Clauses.{weight_at, factored}
use Rattle.weighted_arrays.proofs.Belonging.{array_for_lem}
use Rattle.opening.specs.Open.{open_answer}
use Rattle.opening.proofs.Opening.{is_open, opened_sized}
use Rattle.opening.proofs.Opens.{weights_add_up}
use Rattle.records.specs.Record.{record_of, taken_sum, within, fits}
use Rattle.bits.specs.Bits.{bit_of, spare_clear}
use Rattle.bits.specs.Clauses.{bits_set, Span, Spared}
use Rattle.records.specs.Clauses.{taken_of, taken_numbers, Numbered, tally_fits, Fitted}
use Rattle.bits.proofs.Bits.{bit_le}

-- a shorter sum
sum_part : (m n : ℕ) (f : ℕ → ℕ) → m ≤ n → sum_to m f ≤ sum_to n f
sum_part m n f h =
    let e : m + (n - m) ≡ n = omega arith in
    omega (arith, sum_add_range m (n - m) f, ap (λ (k : ℕ). sum_to k f) e)

-- a loop over the arrays, of which there are n
module _ {s : Sizes} {b : List ℕ} (z : Sized s b) where
  pub arrays_end : s.arrays ≡ length (decode b).arrays
  arrays_end = sym (arrays_are z)

  pub arrays_few : length (decode b).arrays ≤ 170
  arrays_few = omega (arith, arrays_are z, sized_arrays z)

  -- the part of a list of numbers for arrays that has one for each
  module _ (taken : List ℕ) (e : length taken ≡ 170) where
    pub part_length : length (take s.arrays taken) ≡ s.arrays
    part_length = length-take-le s.arrays taken (omega (arith, sized_arrays z))

    pub part_end : length (take s.arrays taken) ≡ length (decode b).arrays
    part_end = part_length ∙ arrays_end

    pub part_at : {k : ℕ} → k < length (take s.arrays taken) → get_or (take s.arrays taken) k 0 ≡ get_or taken k 0
    part_at {k} h = get_or-take s.arrays taken k 0 (omega (arith, part_length))

  module _ {k n : ℕ} (i : n ≡ length (decode b).arrays) (h : k < n) where
    pub array_place : k < 170
    array_place = omega (arith, arrays_few)

    pub array_scaled : Fits w64 (k * 4)
    array_scaled = record { fits = omega (arith, array_place) }

-- the numbers taken of the first k arrays are counted, and the next array's begin at `at`
pub record Along (b bits taken : List ℕ) (k at : ℕ) : Type 0 where
  pub begins : at ≡ weights_before (decode b).arrays k
  pub counted : Filled (taken_of (decode b).arrays bits) 0 (replicate 170 0) taken k

pub along_none : (b bits : List ℕ) → Along b bits (replicate 170 0) 0 0
unfolding sum_to
along_none b bits = record { begins = refl; counted = filled_none _ 0 _ }

module _ {b bits taken : List ℕ} {k at : ℕ} (p : Along b bits taken k at) {s : Sizes} (z : Sized s b) (m : Numbered b bits) where
  abbrev l : List Weighted
  l = (decode b).arrays

  few : length l ≤ length (replicate {A = ℕ} 170 0)
  few = omega (arith, length-replicate {A = ℕ} 170 0, arrays_few z)

  module _ {n w : ℕ} (i : n ≡ length (decode b).arrays) (h : k < n) (e : w ≡ weight_at (decode b).arrays k) where
    up_to : at + w ≤ weights_before l (length l)
    up_to = omega (arith, p.begins, sum_more (weight_at l) k, sum_part (k + 1) (length l) (weight_at l) (omega arith))

    pub along_room : Span at w bits
    along_room = record { begins = omega (arith, up_to, m.few); few = omega (arith, up_to, m.few); room = omega (arith, up_to, m.room) }

    pub along_fits : Fits w64 (at + w)
    along_fits = record { fits = omega (arith, up_to, m.few) }

    pub along_more : (x : ℕ) → x ≡ bits_set bits at w → Along b bits (set taken k x) (k + 1) (at + w)
    along_more x q = record {
      begins = omega (arith, p.begins, sum_more (weight_at l) k);
      counted = front_more p.counted x (let same : bits_set bits at w ≡ taken_of l bits k = rw (p.begins, e) refl in q ∙ same) h (omega (arith, few));
    }

  pub along_all : {n : ℕ} → n ≡ length (decode b).arrays → k ≤ n → n ≤ k → taken ≡ taken_numbers (decode b).arrays bits
  unfolding taken_numbers
  along_all i h q = front_all p.counted (omega arith) (omega arith) few

module _ (l : List Weighted) (bits : List ℕ) where
  taken_at : (j : ℕ) → j < length l → get_or (taken_numbers l bits) j 0 ≡ taken_of l bits j
  unfolding taken_numbers
  taken_at j h = written_at (tabulate (length l) (taken_of l bits)) (replicate 170 0) (length_tabulate _ _) j h ∙ get_d_tabulate (length l) (taken_of l bits) j 0 h

-- a sum over the numbers of the first k arrays, array by array
in-arrays : (l : List Weighted) (f : ℕ → ℕ) (k : ℕ) → sum_to (weights_before l k) f ≡ sum_to k (λ j. sum_to (weight_at l j) (λ i. f (weights_before l j + i)))
unfolding sum_to
in-arrays l f zero = refl
in-arrays l f (suc k) =
    sum_add_range (weights_before l k) (weight_at l k) f ∙ ap (λ (n : ℕ). n + sum_to (weight_at l k) (λ i. f (weights_before l k + i))) (in-arrays l f k)

-- so the arrays of the taken numbers add up to the counts times how many are taken
module _ (l : List Weighted) (bits : List ℕ) (i : ℕ) where
  drawn_at : (k j : ℕ) → k < length l → j < weight_at l k → get_or (array_for l (weights_before l k + j)) i 0 ≡ get_or (array_at l k).counts i 0
  unfolding sum_to
  drawn_at k j h m = ap (λ (a : List ℕ). get_or a i 0) (array_for_lem l _ k h (omega arith) (omega arith))

  taken_arrays : sum_to (weights_before l (length l)) (λ d. bit_of bits d * get_or (array_for l d) i 0) ≡ factored (taken_of l bits) l (length l) i
  taken_arrays =
      in-arrays l _ (length l)
      ∙ sum_ext (length l) _ _ (λ k h.
      let count : ℕ = get_or (array_at l k).counts i 0 in
      sum_ext (weight_at l k) _ (λ j. count * bit_of bits (weights_before l k + j)) (λ j m. rw (drawn_at k j h m) (mul_comm _ count))
      ∙ sum_mul (weight_at l k) count _ ∙ mul_comm count _)

-- the first n numbers of a list, added up
-- two numbers compared either way
pub eqb_sym : (m n : ℕ) → eqb m n ≡ eqb n m
eqb_sym m n = go (ℕ_discrete m n)
  where
    go : Dec (m ≡ n) → eqb m n ≡ eqb n m
    go (yes e) = rw e refl
    go (no h) = ne_eqb _ _ h ∙ sym (ne_eqb _ _ (λ e. h (sym e)))

sum_first : (n : ℕ) (l : List ℕ) → n ≤ length l → sum (take n l) ≡ sum_to n (λ k. get_or l k 0)
unfolding sum_to
sum_first zero xs h = refl
sum_first (suc n) xs h =
    let more : sum (take (suc n) xs) ≡ sum (take n xs) + get_or xs n 0 = rw (← add-one n) (sum_by_more (λ x. x) xs n 0 (omega arith)) in
    omega (arith, more, sum_first n xs (omega arith))

-- the tests of a record
module _ {s : Sizes} (b : List ℕ) {bits tally : List ℕ} (o : open_answer b ≡ Ok s) (f : Fitted s bits tally) where
  sized : Sized s b
  sized = opened_sized b s o

  abbrev arrays : List Weighted
  arrays = (decode b).arrays

  pub spared : Spared s.denominator bits
  spared = record { few = sized_denominator sized; room = f.bits_room }

  weights : weights_before arrays (length arrays) ≡ s.denominator
  weights =
      sym (sum_places (λ a. a.weight) arrays (record { weight = 0; counts = [] }))
      ∙ weights_add_up b (is_open b s o).opens ∙ denominator_is sized

  pub numbered : Numbered b bits
  numbered = record {
    few = omega (arith, weights, sized_denominator sized);
    room = omega (arith, weights, f.bits_room);
  }

  -- a spare bit that is set
  pub spare_set : (n rounds : ℕ) → spare_clear s.denominator bits ≡ false → false ≡ fits (decode b) (record_of n rounds bits tally)
  unfolding fits
  spare_set n rounds h = sym (rw (denominator_is sized, h) refl)

  -- with the numbers taken of each array
  module _ {taken : List ℕ} (t : taken ≡ taken_numbers (decode b).arrays bits) where
    taken_is : (j : ℕ) → j < length arrays → get_or taken j 0 ≡ taken_of arrays bits j
    taken_is j h = ap (λ (q : List ℕ). get_or q j 0) t ∙ taken_at arrays bits j h

    taken_length : length taken ≡ 170
    unfolding taken_numbers
    taken_length =
        ap length t
        ∙ written_length (tabulate (length arrays) (taken_of arrays bits)) (replicate 170 0) (length_tabulate _ _) (omega (arith, arrays_few sized, zeros))
        ∙ zeros
      where
        zeros : length (replicate {A = ℕ} 170 0) ≡ 170
        zeros = length-replicate {A = ℕ} 170 0

    pub numbers_room : s.arrays ≤ length taken
    numbers_room = omega (arith, taken_length, sized_arrays sized)

    pub numbers_part : s.arrays ≡ length (take s.arrays taken)
    numbers_part = sym (length-take-le s.arrays taken numbers_room)

    -- their sum is the count of the bits
    count_by : sum (take s.arrays taken) ≡ sum_to s.denominator (bit_of bits)
    count_by =
        sum_first s.arrays taken numbers_room
        ∙ ap (λ (n : ℕ). sum_to n (λ k. get_or taken k 0)) (sym (arrays_are sized))
        ∙ sum_ext (length arrays) _ _ taken_is ∙ sym (in-arrays arrays (bit_of bits) (length arrays)) ∙ ap (λ (n : ℕ). sum_to n (bit_of bits)) weights

    pub few_taken : sum (take s.arrays taken) < 4294967296
    few_taken = omega (arith, count_by, sum_ones s.denominator (bit_of bits) (λ j. bit_le bits j), sized_denominator sized)

    sum_is : (i : ℕ) → factored (λ j. get_or taken j 0) arrays (length arrays) i ≡ taken_sum (decode b) bits i
    sum_is i =
        sum_ext (length arrays) _ _ (λ j m. ap (λ (x : ℕ). x * get_or (array_at arrays j).counts i 0) (taken_is j m))
        ∙ sym (taken_arrays arrays bits i)
        ∙ ap (λ (n : ℕ). sum_to n (λ d. bit_of bits d * get_or (array_for arrays d) i 0)) (weights ∙ sym (denominator_is sized))

    tally_by : (rounds : ℕ) → tally_fits rounds (decode b) taken tally
        ≡ every (cell_count (decode b)) (λ i. eqb (get_or tally i 0) (rounds * get_or (decode b).cells i 0 + taken_sum (decode b) bits i))
    unfolding tally_fits
    tally_by rounds = every_ext (cell_count (decode b)) _ _ (λ i h. ap (λ (n : ℕ). eqb (get_or tally i 0) (rounds * get_or (decode b).cells i 0 + n)) (sum_is i))

    -- a record fits by what the code finds
    module _ (n rounds : ℕ) where
      fits_parts : fits (decode b) (record_of n rounds bits tally)
          ≡ (spare_clear s.denominator bits && eqb n (sum_to s.denominator (bit_of bits)) && within s.denominator n rounds
          && every (cell_count (decode b)) (λ i. eqb (get_or tally i 0) (rounds * get_or (decode b).cells i 0 + taken_sum (decode b) bits i)))
      unfolding fits
      fits_parts = rw (denominator_is sized)

      pub fits_by : fits (decode b) (record_of n rounds bits tally)
          ≡ (spare_clear s.denominator bits && eqb (sum (take s.arrays taken)) n && within s.denominator n rounds && tally_fits rounds (decode b) taken tally)
      fits_by =
          let count : eqb (sum (take s.arrays taken)) n ≡ eqb n (sum_to s.denominator (bit_of bits)) = ap (λ (m : ℕ). eqb m n) count_by ∙ eqb_sym _ n in
          fits_parts ∙ sym (rw (count, tally_by rounds) refl)
