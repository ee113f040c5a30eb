-- What drawing from a plan answers and writes. Assumes nothing.
use Rattle.std.specs.Prelude.{Some, None, Ok, Err}
use mathlib.Core.Path.{◌≡◌, sym, ap, ◌∙◌}
use mathlib.Core.List.{List, [], ◌∷◌}
use Prim.Native.Nat.{ℕ, suc, ◌+◌, ◌*◌, ◌-◌, ◌<◌, ◌≤◌}
use native.Mathlib.Numerals.{add-one}
use native.Mathlib.Omega.{arith}
use lib.ListN.{length}
use lib.Dec.{leb, ltb}
use borrow.Author.Tests.{le-leb, lt-leb, lt-ltb, le-ltb}
use Rattle.base.specs.Lists.{sum_to}
use Rattle.base.specs.Buffers.{written}
use Rattle.base.proofs.Sums.{sum_places}
use Rattle.base.proofs.SumLoops.{sum_more}
use Rattle.refusals.specs.declared.Refusal.{Refusal}
use Rattle.refusals.specs.declared.Refusal.TheVariants.{Buffer, Number}
use Rattle.refusals.specs.Due.{refuse, due}
use Rattle.refusals.proofs.Dues.{due_first, due_second}
use Rattle.form.specs.declared.Sizes.{Sizes}
use Rattle.weighted_arrays.specs.Plan.{Weighted, array_at, weights_before, Belongs}
use Rattle.form.specs.Form.{decode}
use Rattle.reading.specs.Clauses.{Sized}
use Rattle.opening.specs.Open.{open_tests, open_refusal, open_answer}
use Rattle.drawing.specs.Draw.{draw_refusal, drawn_array}
use Rattle.weighted_arrays.specs.Clauses.{weight_at}
use Rattle.reading.proofs.Sizing.{arrays_are, denominator_is}
use Rattle.weighted_arrays.proofs.Belonging.{array_for_lem}
use Rattle.opening.proofs.Opening.{is_open, is_refused, opened_sized}
use Rattle.opening.proofs.Opens.{weights_add_up}

-- what is left of a draw number after the first k weights
pub record Left (l : List Weighted) (d k left : ℕ) : Type 0 where
  pub is : left + weights_before l k ≡ d

pub left_none : (l : List Weighted) (d : ℕ) → Left l d 0 d
unfolding sum_to
left_none l d = record { is = omega arith }

module _ {l : List Weighted} {d k left : ℕ} (p : Left l d k left) {w : ℕ} (e : w ≡ (array_at l k).weight) where
  pub left_more : w ≤ left → Left l d (k + 1) (left - w)
  left_more h = record { is = omega (arith, p.is, sum_more (weight_at l) k) }

  pub left_found : k < length l → left < w → Belongs l d k
  left_found i h = record { there = i; before = omega (arith, p.is); with = omega (arith, p.is, sum_more (weight_at l) k) }

module _ {s : Sizes} {b : List ℕ} (z : Sized s b) where
  abbrev arrays : List Weighted
  arrays = (decode b).arrays

  pub array_there : {k : ℕ} → k < s.arrays → k < length arrays
  array_there i = omega (arith, arrays_are z)

  pub array_counted : {d k : ℕ} → Belongs arrays d k → k < s.arrays
  array_counted p = omega (arith, p.there, arrays_are z)

-- an opened plan, whose weights add up to D
module _ (s : Sizes) (b : List ℕ) (o : open_answer b ≡ Ok s) where
  sized : Sized s b
  sized = opened_sized b s o

  pub left_over : (d k left : ℕ) → d < s.denominator → Left (decode b).arrays d k left → s.arrays ≤ k → k ≤ s.arrays → Belongs (decode b).arrays d s.arrays
  left_over d k left h p i j =
      let all : d < weights_before (decode b).arrays (length (decode b).arrays) = omega (arith, denominator_is sized, weights_add_up b (is_open b s o).opens, sum_places (λ a. a.weight) (decode b).arrays (record { weight = 0; counts = [] })) in
      let e : k ≡ length (decode b).arrays = omega (arith, arrays_are sized) in
      let q : weights_before (decode b).arrays k ≡ weights_before (decode b).arrays (length (decode b).arrays) = ap (weights_before (decode b).arrays) e in
      absurd (omega (arith, p.is))

pub array_written : (b : List ℕ) (d k : ℕ) → Belongs (decode b).arrays d k → (old new : List ℕ) → new ≡ written (array_at (decode b).arrays k).counts old
    → new ≡ written (drawn_array b d) old
array_written b d k p old new q =
    let more : d < weights_before (decode b).arrays (suc k) = rw (add-one k) at p.with in
    q ∙ ap (λ (l : List ℕ). written l old) (sym (array_for_lem (decode b).arrays d k p.there p.before more))

-- what is due of a draw with a buffer of m counts
pub refused_first : (b : List ℕ) (d m : ℕ) (x : Refusal) → open_answer b ≡ Err x → draw_refusal b d m ≡ Some x
unfolding draw_refusal open_refusal
refused_first b d m x e = due_first (open_tests b) _ x (is_refused b x e)

module _ (b : List ℕ) (d m : ℕ) (s : Sizes) (o : open_answer b ≡ Ok s) where
  draw_by : draw_refusal b d m ≡ due (refuse Buffer (ltb m (s.rows * s.columns)) ∷ refuse Number (leb s.denominator d) ∷ [])
  unfolding draw_refusal open_refusal
  draw_by = let i = is_open b s o in rw i.sizes (due_second (open_tests b) _ i.opens)

  pub too_short : m < s.rows * s.columns → draw_refusal b d m ≡ Some Buffer
  unfolding due
  too_short h = draw_by ∙ simp (lt-ltb _ _ h)

  module _ (h : s.rows * s.columns ≤ m) where
    pub not_below : s.denominator ≤ d → draw_refusal b d m ≡ Some Number
    unfolding due
    not_below l = draw_by ∙ simp (le-ltb _ _ h, le-leb _ _ l)

    pub drawn : d < s.denominator → draw_refusal b d m ≡ None
    unfolding due
    drawn l = draw_by ∙ simp (le-ltb _ _ h, lt-leb _ _ l)
