-- The variance of a cell, the sum of all, and the three numerators of a plan. Assumes nothing.
use Rattle.std.specs.Prelude.{Ok}
use mathlib.Core.Path.{◌≡◌, refl, sym, ap, ap₂, ◌∙◌}
use mathlib.Core.List.{List, [], ◌∷◌}
use Prim.Native.Nat.{ℕ, zero, suc, ◌+◌, ◌-◌, ◌*◌, ◌%◌, ◌≤◌}
use native.Mathlib.Nat.{mod-lt, mul-le-mul, mul-le-mul_right, le_refl}
use native.Mathlib.Numerals.{add-one}
use native.Mathlib.Omega.{arith}
use lib.IntN.{pos, ◌+ℤ◌}
use lib.ListN.{length, get_or, take, replicate}
use lib.Seq.{take_all}
use Rattle.std.specs.List.{sum_by}
use Rattle.std.proofs.lemmas.List.Sums.{sum_by_more}
use Rattle.base.specs.Lists.{tabulate, sum_to, sumℤ}
use Rattle.base.specs.Buffers.{written}
use Rattle.base.proofs.Lists.{tabulate_ext}
use Rattle.base.proofs.Buffers.{written_front}
use Rattle.base.proofs.Sums.{sum_front, sum_le, sum_same}
use Rattle.weighted_arrays.specs.Plan.{cell_count}
use Rattle.form.specs.declared.Sizes.{Sizes}
use Rattle.form.specs.Form.{decode}
use Rattle.reading.specs.Clauses.{Sized}
use Rattle.reading.proofs.Readings.{cells_length}
use Rattle.reading.proofs.Sizing.{cells_are, denominator_is, sized_few, sized_some, sized_denominator}
use Rattle.reading.proofs.Scratch.{scratch_room}
use Rattle.opening.specs.Open.{open_answer}
use Rattle.opening.proofs.Opening.{opened_sized}
use Rattle.covariances.specs.declared.Extremes.{Extremes}
use Rattle.covariances.specs.Covariance.{cell_covariance}
use Rattle.covariances.specs.Clauses.{Extremal}
use Rattle.covariances.proofs.Products.{CellsReady, ready_sound, ready_some, cells_many, cells_few}
use Rattle.variances.specs.Variance.{rounding_variance, numerators}
use Rattle.variances.specs.Clauses.{DenominatorWithin, SumReady, variances_of, VariancesOf, Measured}
use Rattle.variances.proofs.Covariances.{cell_variance_is}

-- numbers of a list, as many as are taken of it, added up
sum_first : (f : ℕ → ℕ) (n : ℕ) (xs : List ℕ) → n ≤ length xs → sum_by f (take n xs) ≡ sum_to n (λ i. f (get_or xs i 0))
unfolding sum_to
sum_first f zero xs h = refl
sum_first f (suc n) xs h =
    ap (λ (m : ℕ). sum_by f (take m xs)) (sym (add-one n)) ∙ sum_by_more f xs n 0 (omega arith) ∙ ap (λ (m : ℕ). m + f (get_or xs n 0)) (sum_first f n xs (omega arith))

-- the variances of all cells, added up
module _ {d : ℕ} (h : DenominatorWithin d) where
  variance_most : (g : ℕ) → rounding_variance d g ≤ 4294836225
  variance_most g =
      let f = g % d in
      let first : f ≤ 65535 = omega (arith, mod-lt g h.some, h.most) in
      let second : d - f ≤ 65535 = omega (arith, h.most) in
      mul-le-mul first second

  pub variances_added : {cells : List ℕ} {s : ℕ} → length cells ≤ 144 → s ≡ sum_by (rounding_variance d) cells → VariancesOf d cells s
  variances_added {cells} {s} few e =
      let n = length cells in
      let f : ℕ → ℕ = λ i. rounding_variance d (get_or cells i 0) in
      let is : s ≡ sum_to n f = e ∙ ap (sum_by (rounding_variance d)) (sym (take_all n cells (le_refl n))) ∙ sum_first (rounding_variance d) n cells (le_refl n) in
      let most : n * 4294836225 ≤ 144 * 4294836225 = mul-le-mul_right 4294836225 few in
      record { is = is; small = omega (arith, is, sum_le n f (λ i. 4294836225) (λ i h. variance_most (get_or cells i 0)), sum_same n 4294836225) }

-- numbers that are not below zero, added up
sum_pos : (n : ℕ) (f : ℕ → ℕ) → sumℤ (tabulate n (λ i. pos (f i))) ≡ pos (sum_to n f)
unfolding sumℤ tabulate sum_to
sum_pos zero f = refl
sum_pos (suc n) f = ap (λ z. pos (f 0) +ℤ z) (sum_pos n (λ i. f (suc i))) ∙ ap pos (sym (sum_front n f))

-- a plan's numerators, from its table in a scratch
module _ (s : Sizes) (b : List ℕ) (o : open_answer b ≡ Ok s) where
  sized : Sized s b
  sized = opened_sized b s o

  module _ (scratch : List ℕ) (e : scratch ≡ written (decode b).cells (replicate 144 0)) where
    abbrev table : List ℕ
    table = take (s.rows * s.columns) scratch

    long : length (decode b).cells ≡ s.rows * s.columns
    long = cells_length b ∙ cells_are sized

    pub table_inside : s.rows * s.columns ≤ length scratch
    table_inside = scratch_room (decode b).cells long (sized_few sized) e

    pub table_is : table ≡ (decode b).cells
    table_is = ap (take (s.rows * s.columns)) e ∙ written_front (decode b).cells _ long

    pub table_long : s.rows * s.columns ≡ length table
    table_long = sym (ap length table_is ∙ long)

    pub table_ready : CellsReady s b table
    table_ready = record { is_open = o; cells_are = table_is }

    pub variances_ready : SumReady s.denominator table
    variances_ready = record { denominator = record { some = sized_some sized; most = sized_denominator sized }; few = cells_few table_ready }

    variances_sum : sumℤ (tabulate (cell_count (decode b)) (λ a. cell_covariance (decode b) a a)) ≡ pos (variances_of s.denominator table)
    variances_sum =
        let n = cell_count (decode b) in
        let d = (decode b).denominator in
        let g = (decode b).cells in
        ap sumℤ (tabulate_ext n _ (λ i. pos (rounding_variance d (get_or g i 0))) (λ i h. cell_variance_is (ready_sound table_ready) (ready_some table_ready) i h))
        ∙ sum_pos n (λ i. rounding_variance d (get_or g i 0))
        ∙ rw (denominator_is sized, ← cells_many table_ready, ← table_is) refl

    pub measured : {v : ℕ} → VariancesOf s.denominator table v → {x : Extremes} → Extremal (decode b) x
        → Measured (decode b) (record { variances = v; smallest = x.low; largest = x.high })
    unfolding numerators
    measured q {x} m = record {
      is = ap₂ ◌∷◌ (ap pos q.is ∙ sym variances_sum) (ap₂ ◌∷◌ m.smallest_is (ap (λ z. z ∷ []) m.largest_is));
      small = record { variances = q.small; smallest = m.low_small; largest = m.high_small };
    }
