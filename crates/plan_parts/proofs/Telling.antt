-- What the calls that tell a plan's parts answer and write, by the tests on their way. Assumes nothing.
use Rattle.std.specs.Prelude.{Result, Ok, Err, ⊤}
use mathlib.Core.Path.{◌≡◌, ◌∙◌}
use mathlib.Core.List.{List, [], ◌∷◌}
use Prim.Native.Nat.{ℕ, ◌*◌, ◌<◌, ◌≤◌}
use native.Mathlib.Omega.{arith}
use lib.ListN.{length}
use lib.Dec.{ltb}
use borrow.Author.Tests.{lt-ltb, le-ltb}
use Rattle.base.specs.Buffers.{written}
use Rattle.refusals.specs.declared.Refusal.{Refusal}
use Rattle.refusals.specs.declared.Refusal.TheVariants.{Buffer}
use Rattle.refusals.specs.Due.{refuse, due, Answers}
use Rattle.refusals.proofs.Dues.{due_first, due_second, refused_so, accepted_so}
use Rattle.form.specs.declared.Sizes.{Sizes}
use Rattle.weighted_arrays.specs.Plan.{cell_count}
use Rattle.form.specs.Form.{decode}
use Rattle.reading.specs.Clauses.{Sized}
use Rattle.reading.proofs.Sizing.{cells_are}
use Rattle.form.proofs.Layouts.{laid}
use Rattle.opening.specs.Open.{open_tests, open_refusal, open_answer, part_refusal}
use Rattle.opening.proofs.Opening.{is_open, is_refused, opened_sized}
use Rattle.plan_parts.specs.Sizes.{size_numbers}
use Rattle.plan_parts.specs.Clauses.{SizesReady}

-- a call that needs n elements of a buffer of `room`, by what is due; `old` is what the buffer holds
module _ {ℓ} {A : Type ℓ} (b : List ℕ) (old : A) (n room : ℕ) where
  pub not_open : {new : A} {x : Refusal} → open_answer b ≡ Err x → Answers (part_refusal b n room) new old (Err x) old
  unfolding part_refusal open_refusal
  not_open {x = x} e = refused_so (due_first (open_tests b) _ x (is_refused b x e))

  module _ {s : Sizes} (e : open_answer b ≡ Ok s) where
    buffer_by : part_refusal b n room ≡ due (refuse Buffer (ltb room n) ∷ [])
    unfolding part_refusal open_refusal
    buffer_by = due_second (open_tests b) _ (is_open b s e).opens

    pub too_short : {new : A} → room < n → Answers (part_refusal b n room) new old (Err Buffer) old
    unfolding due
    too_short h = refused_so (buffer_by ∙ simp (lt-ltb room n h))

    pub told : {new result : A} → n ≤ room → result ≡ new → Answers (part_refusal b n room) new old (Ok tt) result
    unfolding due
    told h w = accepted_so (buffer_by ∙ simp (le-ltb room n h)) w

module _ (b old : List ℕ) where
  abbrev SizesAnswer : Result ⊤ Refusal → List ℕ → Type 0
  SizesAnswer r new = Answers (part_refusal b 4 (length old)) (written (size_numbers b) old) old r new

  abbrev CellsAnswer : Result ⊤ Refusal → List ℕ → Type 0
  CellsAnswer r new = Answers (part_refusal b (cell_count (decode b)) (length old)) (written (decode b).cells old) old r new

  pub sizes_refused : {x : Refusal} → open_answer b ≡ Err x → SizesAnswer (Err x) old
  sizes_refused e = not_open b old 4 (length old) e

  pub cells_refused : {x : Refusal} → open_answer b ≡ Err x → CellsAnswer (Err x) old
  cells_refused e = not_open b old (cell_count (decode b)) (length old) e

  module _ {s : Sizes} (e : open_answer b ≡ Ok s) where
    sized : Sized s b
    sized = opened_sized b s e

    cells_count : cell_count (decode b) ≡ s.rows * s.columns
    cells_count = cells_are sized

    pub sizes_short : length old < 4 → SizesAnswer (Err Buffer) old
    sizes_short h = too_short b old 4 (length old) e h

    pub sizes_ready : 4 ≤ length old → SizesReady s old
    sizes_ready h = record { bounded = rw sized.sizes (laid b sized.laid_out_is).sizes; room = h }

    pub sizes_told : {new : List ℕ} → 4 ≤ length old → new ≡ written (s.rows ∷ s.columns ∷ s.arrays ∷ s.denominator ∷ []) old → SizesAnswer (Ok tt) new
    sizes_told h w = told b old 4 (length old) e h (rw sized.sizes at w)

    pub cells_short : length old < s.rows * s.columns → CellsAnswer (Err Buffer) old
    cells_short h = too_short b old (cell_count (decode b)) (length old) e (omega (arith, cells_count))

    pub cells_told : {new : List ℕ} → s.rows * s.columns ≤ length old → new ≡ written (decode b).cells old → CellsAnswer (Ok tt) new
    cells_told h w = told b old (cell_count (decode b)) (length old) e (omega (arith, cells_count)) w
