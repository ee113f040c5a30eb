-- On a table without a cell below zero the call answers as "rounding" does. Assumes nothing.
use Rattle.std.specs.Prelude.{Option, Some, None}
use mathlib.Core.Path.{◌≡◌, refl, sym, ap, ap₂, ◌∙◌}
use mathlib.Core.Bool.{◌&&◌}
use mathlib.Core.List.{List, [], ◌∷◌, ◌++◌, map, map-append}
use Prim.Native.Nat.{ℕ, zero, suc, ◌*◌}
use native.Mathlib.Omega.{arith}
use borrow.Author.Tests.{le-leb}
use lib.Dec.{leb}
use lib.IntN.{ℤ, pos, ◌+ℤ◌, ◌*ℤ◌}
use lib.ListN.{length, get_or, drop, replicate, length-map, length-replicate, get_or-map}
use lib.Seq.{ext_get_or}
use Rattle.base.specs.Lists.{all}
use Rattle.base.specs.Buffers.{written}
use Rattle.refusals.specs.declared.Refusal.{Refusal}
use Rattle.refusals.specs.Due.{after}
use Rattle.refusals.proofs.Dues.{first_none}
use Rattle.table.specs.Clauses.{IsTable}
use Rattle.table.specs.Check as natural-check
use Rattle.table.proofs.Checks.{passed_all}
use Rattle.first_rounding.specs.First as natural
use Rattle.rounding.specs.Call as natural-call
use Rattle.first_rounding.proofs.Existence.{first_exists}
use Rattle.first_rounding.proofs.Roundings.{rounding_length}
use Rattle.corrections.specs.Rounding.{first_rounding}
use Rattle.correction_check.specs.Check.{cell_within}
use Rattle.corrections.specs.Call.{round_refusal}
use Rattle.corrections.specs.Same.{reply_of, natural_reply}
use Rattle.corrections.proofs.Moved.{moved_at, moved_length, Parted, first_moved}

-- the same refusal is due
within_natural : (b : ℕ) (n : ℕ) → cell_within b (pos n) ≡ leb n b
within_natural zero n = simp (le-leb 0 n (omega arith))
within_natural (suc b) n = refl

cells_natural : (b : ℕ) (g : List ℕ) → all (cell_within b) (map pos g) ≡ all (λ x. leb x b) g
unfolding all
cells_natural b [] = refl
cells_natural b (x ∷ g) = ap₂ ◌&&◌ (within_natural b x) (cells_natural b g)

due_same : (r c d : ℕ) (g : List ℕ) (room : ℕ) → round_refusal r c d (map pos g) room ≡ natural-call.round_refusal r c d g room
unfolding round_refusal natural-call.round_refusal
due_same r c d g room = rw (length-map g pos, cells_natural (1000 * d) g) refl

zeros : (n k : ℕ) → get_or (replicate n (pos 0)) k (pos 0) ≡ pos 0
zeros zero k = refl
zeros (suc n) zero = refl
zeros (suc n) (suc k) = zeros n k

-- and the first controlled rounding is the same: no multiple is set aside
module _ {r c d : ℕ} {g : List ℕ} (t : IsTable r c d g) where
  none_aside : List ℤ
  none_aside = replicate (length g) (pos 0)

  aside_at : (k : ℕ) → get_or none_aside k (pos 0) ≡ pos 0
  unfolding none_aside
  aside_at k = zeros (length g) k

  parted : Parted d (map pos g) none_aside g
  unfolding none_aside
  parted = record {
    cells = λ k. get_or-map pos g k 0 ∙ sym (ap (λ (z : ℤ). z *ℤ pos d +ℤ pos (get_or g k 0)) (aside_at k) ∙ ap pos (omega arith));
    length_g = length-map g pos;
    length_q = length-replicate (length g) (pos 0);
  }

  firsts : List ℕ
  firsts = natural.first_rounding r c d g

  first : natural.IsFirst r c d g firsts
  unfolding firsts
  first = first_exists t.shape t.some_denominator

  firsts_length : length none_aside ≡ length firsts
  unfolding none_aside
  firsts_length = length-replicate (length g) (pos 0) ∙ t.shape.cells ∙ sym (rounding_length t.shape d firsts first.rounding)

  first_same : first_rounding r c d (map pos g) ≡ map pos (natural.first_rounding r c d g)
  unfolding firsts
  first_same =
      first_moved t.shape t.some_denominator parted firsts first
      ∙ ext_get_or (pos 0) _ _ (moved_length none_aside firsts firsts_length ∙ firsts_length ∙ sym (length-map firsts pos))
      (λ k h. moved_at none_aside firsts firsts_length k ∙ ap (λ (z : ℤ). z +ℤ pos (get_or firsts k 0)) (aside_at k) ∙ ap pos (omega arith) ∙ sym (get_or-map pos firsts k 0))

drop_natural : (n : ℕ) (l : List ℕ) → drop n (map pos l) ≡ map pos (drop n l)
drop_natural zero l = refl
drop_natural (suc n) [] = refl
drop_natural (suc n) (x ∷ l) = drop_natural n l

written_natural : (l old : List ℕ) → written (map pos l) (map pos old) ≡ map pos (written l old)
written_natural l old =
    ap (λ (m : List ℤ). map pos l ++ m) (ap (λ (n : ℕ). drop n (map pos old)) (length-map l pos) ∙ drop_natural (length l) old)
    ∙ sym (map-append pos l (drop (length l) old))

-- so the whole answer is
module _ (r c d : ℕ) (g buffer : List ℕ) where
  due_is : round_refusal r c d (map pos g) (length (map pos buffer)) ≡ natural-call.round_refusal r c d g (length buffer)
  due_is = ap (round_refusal r c d (map pos g)) (length-map buffer pos) ∙ due_same r c d g (length buffer)

  accepted : natural-call.round_refusal r c d g (length buffer) ≡ None → IsTable r c d g
  unfolding natural-call.round_refusal natural-check.table_refusal
  accepted e = passed_all r c d g (first_none (natural-check.table_tests r c d g) _ e)

  left_of : (o : Option Refusal) → natural-call.round_refusal r c d g (length buffer) ≡ o
      → after o (written (first_rounding r c d (map pos g)) (map pos buffer)) (map pos buffer) ≡ map pos (after o (written (natural.first_rounding r c d g) buffer) buffer)
  unfolding after
  left_of (Some x) e = refl
  left_of None e = ap (λ (l : List ℤ). written l (map pos buffer)) (first_same (accepted e)) ∙ written_natural (natural.first_rounding r c d g) buffer

  pub reply_same : reply_of r c d (map pos g) (map pos buffer) ≡ natural_reply r c d g buffer
  reply_same =
      ap₂ (λ (o : Option Refusal) (l : List ℤ). record { due = o; left = l }) due_is
      (ap (λ (o : Option Refusal). after o (written (first_rounding r c d (map pos g)) (map pos buffer)) (map pos buffer)) due_is ∙ left_of _ refl)
