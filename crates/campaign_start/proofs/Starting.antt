-- What a start answers and writes, by the tests on its way, and what a call goes on with that opens a plan for a record. Assumes nothing.
use Rattle.std.specs.Prelude.{Some, None, Ok, Err}
use mathlib.Core.Path.{◌≡◌, refl, sym, ◌∙◌}
use mathlib.Core.Bool.{true, not, ◌&&◌}
use mathlib.Core.List.{List, [], ◌∷◌, ◌++◌}
use Prim.Native.Nat.{ℕ, ◌*◌, ◌<◌, ◌≤◌}
use native.Mathlib.Omega.{arith}
use lib.ListN.{length, take, drop, replicate, length-replicate}
use lib.Seq.{length-take-le}
use lib.Dec.{leb}
use borrow.Author.Tests.{le-leb, lt-leb, not-false}
use Rattle.std.specs.Int.{div_ceil}
use Rattle.base.specs.Buffers.{written}
use Rattle.refusals.specs.declared.Refusal.{Refusal}
use Rattle.refusals.specs.declared.Refusal.TheVariants.{Buffer}
use Rattle.refusals.specs.Due.{Test, refuse, due}
use Rattle.refusals.proofs.Dues.{due_first, due_second, not_here, not_later, refused_so, accepted_so}
use Rattle.form.specs.declared.Sizes.{Sizes}
use Rattle.form.specs.Form.{decode}
use Rattle.opening.specs.Open.{open_tests, open_refusal, Opens, open_answer}
use Rattle.reading.specs.Clauses.{Sized}
use Rattle.reading.proofs.Sizing.{cells_are, denominator_is}
use Rattle.opening.proofs.Opening.{opened_sized, is_open, is_refused, opens_by}
use Rattle.records.specs.Record.{CampaignRecord, record_of, room_for}
use Rattle.bits.specs.Bits.{bit_bytes}
use Rattle.campaign_start.specs.Start.{start_tests, start_refusal, cleared, started, Starts}
use Rattle.records.specs.Clauses.{Fitted}
use Rattle.records.proofs.Long.{room_bits, room_tally}

-- the bytes of the bits, as the code counts them
pub bytes_are : (d : ℕ) → div_ceil d 8 ≡ bit_bytes d
bytes_are d = omega arith

-- the part of a buffer that is set
pub part_length : (n : ℕ) (buffer : List ℕ) → n ≤ length buffer → n ≡ length (take n buffer)
part_length n buffer h = sym (length-take-le n buffer h)

-- and what it then holds
pub zeroed : {m n : ℕ} → m ≡ n → (buffer : List ℕ) → n ≤ length buffer → {front : List ℕ} → front ≡ replicate (length (take m buffer)) 0
    → front ++ drop m buffer ≡ written (replicate n 0) buffer
zeroed {m} {n} q buffer h {front} e =
    let many : length (take n buffer) ≡ n = length-take-le n buffer h in
    rw (e, q, many, length-replicate {A = ℕ} n 0) refl

-- the ways of opening a plan for a record
module _ (b : List ℕ) (s : CampaignRecord) where
  pub not_open : {x : Refusal} → open_answer b ≡ Err x → start_refusal b s ≡ Some x
  unfolding start_refusal open_refusal
  not_open {x} e = due_first (open_tests b) _ x (is_refused b x e)

  module _ {t : Sizes} (e : open_answer b ≡ Ok t) where
    room_by : start_refusal b s
        ≡ due (refuse Buffer (not (leb (bit_bytes t.denominator) (length s.bits) && leb (t.rows * t.columns) (length s.tally))) ∷ [])
    unfolding start_refusal open_refusal decode
    room_by = let i = is_open b t e in rw i.sizes (due_second (open_tests b) _ i.opens)

    pub short_bits : length s.bits < bit_bytes t.denominator → start_refusal b s ≡ Some Buffer
    unfolding due
    short_bits h = room_by ∙ simp (lt-leb _ _ h)

    module _ (h : bit_bytes t.denominator ≤ length s.bits) where
      pub short_tally : length s.tally < t.rows * t.columns → start_refusal b s ≡ Some Buffer
      unfolding due
      short_tally l = room_by ∙ simp (le-leb _ _ h, lt-leb _ _ l)

      pub long_enough : t.rows * t.columns ≤ length s.tally → start_refusal b s ≡ None
      unfolding due
      long_enough l = room_by ∙ simp (le-leb _ _ h, le-leb _ _ l)

-- what is known where nothing is due of a start, nor of what may apply after it
module _ (b : List ℕ) (s : CampaignRecord) (l : List Test) (h : due (start_tests b s ++ l) ≡ None) where
  pub opened_first : Opens b
  opened_first = opens_by b (not-false _ (not_here _ _ h)) (not-false _ (not_here _ _ (not_later _ _ h)))

  room_first : room_for (decode b) s ≡ true
  room_first = not-false _ (not_here _ _ (not_later _ _ (not_later _ _ h)))

  pub fitted_of : {t : Sizes} → open_answer b ≡ Ok t → Fitted t s.bits s.tally
  fitted_of {t} e =
      let sized : Sized t b = opened_sized b t e in
      record {
        bits_room = rw (denominator_is sized) at (room_bits (decode b) s room_first);
        tally_room = rw (cells_are sized) at (room_tally (decode b) s room_first);
      }

  pub after_start : due l ≡ None
  after_start = not_later _ _ (not_later _ _ (not_later _ _ h))

-- a call that goes on with a plan opened for its record, or does not
module _ (b bits tally : List ℕ) where
  module _ (n rounds : ℕ) where
    abbrev given : CampaignRecord
    given = record_of n rounds bits tally

    -- count and rounds have no part in it
    pub start_same : start_refusal b given ≡ start_refusal b (record_of 0 0 bits tally)
    unfolding start_refusal
    start_same = refl

    pub start_keeps : {x : Refusal} → start_refusal b (record_of 0 0 bits tally) ≡ Some x → Starts (λ a. a) (started b given) (Err x) given
    unfolding started
    start_keeps e = let a = refused_so (start_same ∙ e) in record { answer = a.answer; left = a.left }

  module _ {b' : List ℕ} (i : (b' ≡ b) × (start_refusal b (record_of 0 0 bits tally) ≡ None)) {t : Sizes} (o : open_answer b' ≡ Ok t) where
    opened_here : open_answer b ≡ Ok t
    opened_here = rw i.0 at o

    pub start_fitted : Fitted t bits tally
    unfolding start_refusal
    start_fitted = fitted_of b (record_of 0 0 bits tally) [] i.1 opened_here

    pub bit_there : {d : ℕ} → d < t.denominator → d < 8 * length bits
    bit_there l = omega (arith, start_fitted.bits_room)

    pub start_leaves : (n rounds : ℕ) {bits' tally' : List ℕ} → bits' ≡ written (replicate (bit_bytes t.denominator) 0) bits
        → tally' ≡ written (replicate (t.rows * t.columns) 0) tally
        → Starts (λ a. a) (started b (given n rounds)) (Ok tt) (record_of 0 0 bits' tally')
    unfolding started cleared decode
    start_leaves n rounds p q =
        let a = accepted_so {new = cleared (decode b) (given n rounds)} (start_same n rounds ∙ i.1) (rw (p, q, (is_open b t opened_here).sizes)) in
        record { answer = a.answer; left = a.left }
