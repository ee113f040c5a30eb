-- The counts of all arrays, and the sums of products of a cell with those before it. Assumes nothing.
use Rattle.std.specs.Prelude.{Ok}
use mathlib.Core.Path.{◌≡◌, sym, ap, ap₂, ◌∙◌}
use mathlib.Core.List.{List, [], ◌++◌}
use Prim.Native.Nat.{ℕ, ◌+◌, ◌*◌, ◌<◌, ◌≤◌}
use native.Mathlib.Nat.{mul-le-mul}
use native.Mathlib.Decide.{dec_lt}
use native.Mathlib.Omega.{arith}
use lib.ListN.{length, get_or, set, take, get_or-append, length-take}
use lib.Seq.{get_or-take, get_or-set_same, get_or-set_other, length-take-le}
use mir.Val.{Fits}
use mir.Syntax.{w32, w64}
use Rattle.base.specs.Buffers.{written}
use Rattle.base.proofs.Buffers.{written_at}
use Rattle.base.proofs.Sums.{sum_places, sum_term}
use Rattle.form.specs.declared.Sizes.{Sizes}
use Rattle.weighted_arrays.specs.Plan.{Weighted, array_at, cell_count}
use Rattle.form.specs.Form.{decode}
use Rattle.reading.specs.Clauses.{Sized}
use Rattle.reading.proofs.Readings.{decode_few}
use Rattle.reading.proofs.Sizing.{arrays_are, sized_arrays, sized_denominator, denominator_is}
use Rattle.weighted_arrays.specs.Clauses.{SumsTo, Increased}
use Rattle.opening.specs.Open.{open_answer}
use Rattle.opening.proofs.Opening.{is_open, opened_sized}
use Rattle.opening.proofs.Opens.{weights_add_up}
use Rattle.weighted_arrays.proofs.Weighting.{sums_more_at}
use Rattle.covariances.specs.Clauses.{Kept, factors, RowReady}

-- the counts of all arrays, array by array
pub kept_none : (l : List Weighted) (n : ℕ) (counts : List (List ℕ)) → Kept l n 0 counts
kept_none l n counts = record { is = λ j i h. absurd (omega arith) }

module _ {l : List Weighted} {n k : ℕ} {counts : List (List ℕ)} (p : Kept l n k counts) where
  pub kept_more : k < length counts → (old new : List ℕ) → new ≡ written (array_at l k).counts old → length (array_at l k).counts ≡ n → Kept l n (k + 1) (set counts k new)
  kept_more h old new e m = record { is = λ j i below inside. go j i (dec_lt j k) below inside }
    where
      go : (j i : ℕ) → Dec (j < k) → j < k + 1 → i < n → get_or (get_or (set counts k new) j []) i 0 ≡ get_or (array_at l j).counts i 0
      go j i (yes b) below inside = ap (λ (x : List ℕ). get_or x i 0) (get_or-set_other counts k j new [] (omega arith)) ∙ p.is j i b inside
      go j i (no b) below inside =
          let q : j ≡ k = omega arith in
          rw q (ap (λ (x : List ℕ). get_or x i 0) (get_or-set_same counts k new [] h ∙ e) ∙ written_at (array_at l k).counts old m i inside)

  pub kept_all : k ≤ length counts → length l ≤ k → (rest : List (List ℕ)) → Kept l n (length l) (counts ++ rest)
  kept_all h g rest = record { is = λ j i below inside. ap (λ (x : List ℕ). get_or x i 0) (get_or-append counts rest [] j (omega arith)) ∙ p.is j i (omega arith) inside }

-- the sums of a row, array by array
module _ {s : Sizes} {b : List ℕ} {counts : List (List ℕ)} {a : ℕ} {sums₀ : List ℕ} (o : open_answer b ≡ Ok s) (r : RowReady b counts a sums₀) where
  abbrev l : List Weighted
  l = (decode b).arrays

  sized : Sized s b
  sized = opened_sized b s o

  -- no weight is above D
  weight_most : (k : ℕ) → k < length l → (array_at l k).weight ≤ 65535
  weight_most k h = omega (
    arith,
    sum_term (length l) (λ j. (array_at l j).weight) k h,
    sum_places (λ (x : Weighted). x.weight) l (record { weight = 0; counts = [] }),
    weights_add_up b (is_open b s o).opens,
    denominator_is sized,
    sized_denominator sized,
  )

  pub row_arrays : s.arrays ≤ 170
  row_arrays = sized_arrays sized

  pub row_many : s.arrays ≡ length l
  row_many = sym (arrays_are sized)

  pub row_place : a < 144
  row_place = omega (arith, r.there, decode_few b sized.laid_out_is)

  pub row_bytes : Fits w64 (a * 2)
  row_bytes = record { fits = omega (arith, row_place) }

  pub row_end : a ≤ 144
  row_end = omega (arith, row_place)

  module _ {k : ℕ} (there : k < length (take s.arrays counts)) where
    h : k < s.arrays
    h = omega (arith, length-take s.arrays counts)

    -- array k, and its counts before place a
    abbrev array : List ℕ
    array = get_or (take s.arrays counts) k []

    counts_are : (i : ℕ) → i < cell_count (decode b) → get_or array i 0 ≡ get_or (array_at l k).counts i 0
    counts_are i m = ap (λ (x : List ℕ). get_or x i 0) (get_or-take s.arrays counts k [] h) ∙ r.kept.is k i (omega (arith, row_many, h)) m

    abbrev part : List ℕ
    part = take a array

    module _ (m : length array ≡ 144) where
      part_long : length part ≡ a
      part_long = length-take-le a array (omega (arith, row_place))

      part_at : (j : ℕ) → j < a → get_or part j 0 ≡ get_or (array_at l k).counts j 0
      part_at j q = get_or-take a array j 0 q ∙ counts_are j (omega (arith, r.there))

      module _ {sums : List ℕ} (t : SumsTo (factors l a) l a k sums) where
        pub row_more : {w x : ℕ} → w ≡ (array_at l k).weight → x ≡ get_or array a 0 → {new : List ℕ} → Increased (w * x) part sums new → SumsTo (factors l a) l a (k + 1) new
        row_more e q i = sums_more_at t part_long i (ap₂ ◌*◌ e (q ∙ counts_are a r.there)) part_at

    -- a weight, which is not above D, times a count
    pub factor_fits : {w x : ℕ} → w ≡ (array_at l k).weight → x < 65536 → Fits w32 (w * x)
    factor_fits {w} {x} e q =
        let first : w ≤ 65535 = omega (arith, weight_most k (omega (arith, row_many, h))) in
        let second : x ≤ 65535 = omega arith in
        record { fits = omega (arith, mul-le-mul first second) }

  pub row_all : {k : ℕ} {sums : List ℕ} → SumsTo (factors l a) l a k sums → length counts ≡ 170 → k ≤ length (take s.arrays counts) → length (take s.arrays counts) ≤ k
      → SumsTo (factors l a) l a (length l) sums
  row_all {k} t m h g = let q : length l ≡ k = omega (arith, row_many, row_arrays, length-take-le s.arrays counts) in rw q t
