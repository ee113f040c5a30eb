-- The ways through the call that writes a reason. Assumes nothing.
use Rattle.std.specs.Prelude.{Option, Some, None, Result, Ok, Err, ⊤}
use mathlib.Core.Path.{◌≡◌, refl, sym, ap, ◌∙◌}
use mathlib.Core.List.{List, [], ◌∷◌, ◌++◌}
use Prim.Native.Nat.{ℕ, ◌<◌, ◌≤◌}
use lib.ListN.{length, get_or}
use borrow.Author.Tests.{lt-ltb, le-ltb}
use Rattle.base.specs.Buffers.{written}
use Rattle.refusals.specs.declared.Refusal.{Refusal}
use Rattle.refusals.specs.declared.Refusal.TheVariants.{Buffer}
use Rattle.refusals.specs.Answer.{answer_number}
use Rattle.refusals.specs.Due.{due, refused_or, answer_of, Answers}
use Rattle.refusals.proofs.Dues.{due_first, due_second, refused_so, accepted_so}
use Rattle.reasons.specs.declared.Entry.{Entry}
use Rattle.reasons.specs.declared.Entry.TheVariants.{Cell, RowTotal, ColumnTotal, GrandTotal}
use Rattle.reasons.specs.declared.Explanation.{Explanation}
use Rattle.reasons.specs.Reason.{reason_of}
use Rattle.reasons.specs.Call.{round_at, reason_tests, reason_refusal, reason_answer}
use Rattle.reason_numbers.specs.Numbers.{entry_numbers, direction_number, reason_numbers, reply_number, room_tests, reply_refusal}

-- the numbers of an entry are three
three : (e : Entry) (z : ℕ) → get_or (entry_numbers e) 0 0 ∷ get_or (entry_numbers e) 1 0 ∷ get_or (entry_numbers e) 2 0 ∷ z ∷ [] ≡ entry_numbers e ++ (z ∷ [])
three (Cell i j) z = refl
three (RowTotal i) z = refl
three (ColumnTotal j) z = refl
three GrandTotal z = refl

four : (y : Explanation) {n : List ℕ} {z : ℕ} → n ≡ entry_numbers y.entry → z ≡ direction_number y.direction
    → get_or n 0 0 ∷ get_or n 1 0 ∷ get_or n 2 0 ∷ z ∷ [] ≡ entry_numbers y.entry ++ (direction_number y.direction ∷ [])
four y p q = rw (p, q) (three y.entry _)

-- a reason, once asked for, and its numbers
module _ (r c d : ℕ) (g : List ℕ) (k : ℕ) (reply : List ℕ) {x : Result Explanation Refusal} (is : x ≡ reason_answer r c d g k) where
  abbrev Replies : Result ⊤ Refusal → List ℕ → Type 0
  Replies a new = Answers (reply_refusal r c d g k (length reply)) (written (reason_numbers (reason_answer r c d g k)) reply) reply a new

  due_so : (o : Option Refusal) → reason_refusal r c d g k ≡ o → x ≡ refused_or Err (Ok (reason_of r c (round_at r c d g k))) o
  unfolding reason_answer
  due_so o q = is ∙ ap (refused_or Err (Ok (reason_of r c (round_at r c d g k)))) q

  -- it is refused what is due
  pub reply_refused : {y : Refusal} → x ≡ Err y → Replies (Err y) reply
  unfolding reply_refusal reason_refusal
  reply_refused {y} h = refused_so (due_first (reason_tests r c d g k) (room_tests (length reply)) y (go (reason_refusal r c d g k) refl))
    where
      go : (o : Option Refusal) → reason_refusal r c d g k ≡ o → reason_refusal r c d g k ≡ Some y
      go None q = let e = due_so None q in cc
      go (Some z) q = let e = due_so (Some z) q in cc

  -- else its numbers are written where there is room
  module _ {y : Explanation} (h : x ≡ Ok y) where
    none_due : reason_refusal r c d g k ≡ None
    none_due = go (reason_refusal r c d g k) refl
      where
        go : (o : Option Refusal) → reason_refusal r c d g k ≡ o → reason_refusal r c d g k ≡ None
        go None q = q
        go (Some z) q = let e = due_so (Some z) q in cc

    room : reply_refusal r c d g k (length reply) ≡ due (room_tests (length reply))
    unfolding reply_refusal reason_refusal
    room = due_second (reason_tests r c d g k) (room_tests (length reply)) none_due

    pub no_room : length reply < 4 → Replies (Err Buffer) reply
    unfolding due
    no_room l = refused_so (room ∙ simp (lt-ltb (length reply) 4 l))

    pub replied : {n : List ℕ} {z : ℕ} {new : List ℕ} → 4 ≤ length reply → n ≡ entry_numbers y.entry → z ≡ direction_number y.direction
        → new ≡ written (get_or n 0 0 ∷ get_or n 1 0 ∷ get_or n 2 0 ∷ z ∷ []) reply → Replies (Ok tt) new
    unfolding due
    replied l p q w =
        accepted_so (room ∙ simp (le-ltb (length reply) 4 l))
        (w ∙ ap (λ (a : List ℕ). written a reply) (four y p q ∙ ap reason_numbers (sym h ∙ is)))

-- with room for four numbers the call returns the reply's number
pub reply_number_lem : (r c d : ℕ) (g : List ℕ) (k room : ℕ) → 4 ≤ room → answer_number (answer_of (reply_refusal r c d g k room)) ≡ reply_number (reason_answer r c d g k)
unfolding reply_refusal reason_refusal reason_answer answer_of due
reply_number_lem r c d g k room h = go (due (reason_tests r c d g k)) refl
  where
    none_more : due (room_tests room) ≡ None
    none_more = simp (le-ltb room 4 h)

    go : (o : Option Refusal) → due (reason_tests r c d g k) ≡ o
        → answer_number (answer_of (due (reason_tests r c d g k ++ room_tests room))) ≡ reply_number (refused_or Err (Ok (reason_of r c (round_at r c d g k))) (due (reason_tests r c d g k)))
    go None q = rw (due_second (reason_tests r c d g k) (room_tests room) q, none_more, q) refl
    go (Some x) q = rw (due_first (reason_tests r c d g k) (room_tests room) x q, q) refl
