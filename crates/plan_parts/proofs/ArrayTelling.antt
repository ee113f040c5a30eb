-- What the call that tells an array answers and writes, by the tests on its way. Assumes nothing.
use Rattle.std.specs.Prelude.{Result, Ok, Err, ⊤}
use mathlib.Core.Path.{◌≡◌, ap, ◌∙◌}
use mathlib.Core.Bool.{not, ◌||◌, true, false}
use mathlib.Core.List.{List, [], ◌∷◌}
use Prim.Native.Nat.{ℕ, ◌-◌, ◌*◌, ◌<◌, ◌≤◌}
use native.Mathlib.Omega.{arith}
use lib.ListN.{length, set}
use lib.Dec.{ltb}
use borrow.Author.Tests.{lt-ltb, le-ltb}
use Rattle.base.specs.Buffers.{written}
use Rattle.base.proofs.Buffers.{one_set}
use Rattle.refusals.specs.declared.Refusal.{Refusal}
use Rattle.refusals.specs.declared.Refusal.TheVariants.{Array, Buffer}
use Rattle.refusals.specs.Due.{refuse, due, Answers}
use Rattle.refusals.proofs.Dues.{due_first, due_second, refused_so, accepted_so}
use Rattle.table.specs.Check.{up_to}
use Rattle.form.specs.declared.Sizes.{Sizes}
use Rattle.weighted_arrays.specs.Plan.{cell_count, array_at}
use Rattle.form.specs.Form.{decode}
use Rattle.reading.specs.Clauses.{Sized}
use Rattle.reading.proofs.Sizing.{arrays_are, cells_are}
use Rattle.opening.specs.Open.{open_tests, open_refusal, open_answer}
use Rattle.opening.proofs.Opening.{is_open, is_refused, opened_sized}
use Rattle.plan_parts.specs.Array.{Buffers, buffers, array_refusal, array_into}

module _ (b : List ℕ) (k : ℕ) (weights counts : List ℕ) where
  abbrev Tells : Result ⊤ Refusal → Buffers → Type 0
  Tells a new = Answers (array_refusal b k (length weights) (length counts)) (array_into b k (buffers weights counts)) (buffers weights counts) a new

  pub array_refused : {x : Refusal} → open_answer b ≡ Err x → Tells (Err x) (buffers weights counts)
  unfolding array_refusal open_refusal
  array_refused {x} e = refused_so (due_first (open_tests b) _ x (is_refused b x e))

  module _ {s : Sizes} (e : open_answer b ≡ Ok s) where
    sized : Sized s b
    sized = opened_sized b s e

    after_opening : array_refusal b k (length weights) (length counts)
        ≡ due (refuse Array (not (up_to (length (decode b).arrays) k)) ∷ refuse Buffer (ltb (length weights) 1 || ltb (length counts) (cell_count (decode b))) ∷ [])
    unfolding array_refusal open_refusal
    after_opening = due_second (open_tests b) _ (is_open b s e).opens

    numbers : up_to (length (decode b).arrays) k ≡ up_to s.arrays k
    numbers = rw (arrays_are sized)

    pub no_array : up_to s.arrays k ≡ false → Tells (Err Array) (buffers weights counts)
    unfolding due
    no_array h = refused_so (after_opening ∙ simp (numbers ∙ h))

    module _ (there : up_to s.arrays k ≡ true) where
      after_number : array_refusal b k (length weights) (length counts)
          ≡ due (refuse Buffer (ltb (length weights) 1 || ltb (length counts) (cell_count (decode b))) ∷ [])
      unfolding due
      after_number = after_opening ∙ simp (numbers ∙ there)

      pub weight_short : length weights < 1 → Tells (Err Buffer) (buffers weights counts)
      unfolding due
      weight_short h = refused_so (after_number ∙ simp (lt-ltb (length weights) 1 h))

      module _ (one : 1 ≤ length weights) where
        pub counts_short : length counts < s.rows * s.columns → Tells (Err Buffer) (buffers weights counts)
        unfolding due
        counts_short h = refused_so (after_number ∙ simp (le-ltb (length weights) 1 one, lt-ltb (length counts) (cell_count (decode b)) (omega (arith, cells_are sized))))

        module _ (room : s.rows * s.columns ≤ length counts) where
          pub array_told : {v : ℕ} {new : List ℕ} → v ≡ (array_at (decode b).arrays (k - 1)).weight → new ≡ written (array_at (decode b).arrays (k - 1)).counts counts
              → Tells (Ok tt) (buffers (set weights 0 v) new)
          unfolding due
          array_told {v} {new} p q =
              let w : set weights 0 v ≡ written ((array_at (decode b).arrays (k - 1)).weight ∷ []) weights = one_set weights v one ∙ ap (λ (y : ℕ). written (y ∷ []) weights) p in
              accepted_so (after_number ∙ simp (le-ltb (length weights) 1 one, le-ltb (length counts) (cell_count (decode b)) (omega (arith, cells_are sized)))) cc
