-- What a campaign draw answers and writes, by the tests on its way. Assumes nothing.
use Rattle.std.specs.Prelude.{None, Some, Result, Ok, Err, ⊤}
use mathlib.Core.Path.{◌≡◌, refl, sym, ap, ◌∙◌}
use mathlib.Core.Bool.{Bool, true, false, not}
use mathlib.Core.List.{List, [], ◌∷◌}
use Prim.Native.Nat.{ℕ, ◌+◌, ◌*◌, ◌/◌, ◌%◌, ◌^◌, ◌<◌, ◌≤◌}
use native.Mathlib.Nat.{mul-le-mul}
use native.Mathlib.Omega.{arith}
use lib.ListN.{length, get_or, set, take, replicate, length-set}
use lib.Dec.{leb, ltb, eqb}
use borrow.Author.Tests.{le-leb, lt-leb, leb-false, lt-ltb, le-ltb, ltb-false, eqb-true, eq-eqb, ne_eqb, not-true, not-false}
use Rattle.base.specs.Lists.{tabulate}
use Rattle.base.specs.Buffers.{written}
use Rattle.base.proofs.Buffers.{written_front, written_length}
use Rattle.refusals.specs.declared.Refusal.{Refusal}
use Rattle.refusals.specs.declared.Refusal.TheVariants.{Buffer, Number, Record, Taken, Rounds}
use Rattle.refusals.specs.Due.{refuse, due, after, Answers}
use Rattle.refusals.proofs.Dues.{due_first, due_second, not_here, not_later, refused_so, accepted_so}
use Rattle.form.specs.declared.Sizes.{Sizes}
use Rattle.weighted_arrays.specs.Plan.{cell_count}
use Rattle.form.specs.Form.{decode}
use Rattle.opening.specs.Open.{Opens, open_answer}
use Rattle.drawing.specs.Draw.{drawn_array}
use Rattle.drawing.specs.Clauses.{Drawing}
use Rattle.reading.specs.Clauses.{Sized}
use Rattle.reading.proofs.Sizing.{cells_are, denominator_is, sized_denominator}
use Rattle.opening.proofs.Opening.{is_open, opened_sized}
use Rattle.records.specs.Record.{CampaignRecord, record_of, max_rounds, fits}
use Rattle.bits.specs.Bits.{bit_of, bit_bytes}
use Rattle.campaign_start.specs.Start.{start_tests, start_refusal}
use Rattle.campaign_draw.specs.Draw.{campaign_refusal, taking, closed, ask, made, Draws}
use Rattle.records.specs.declared.Record.{Record as Counted}
use Rattle.bits.specs.Clauses.{Unset}
use Rattle.records.specs.Clauses.{Fitted}
use Rattle.campaign_draw.specs.Clauses.{Addends, Closable, Closes}
use Rattle.opening.proofs.Sound.{sound}
use Rattle.records.proofs.Numbers.{array_length, count_room, tally_room}
use Rattle.records.proofs.Holding.{fit_count, fit_tally}
use Rattle.campaign_start.proofs.Starting.{fitted_of, after_start}

-- counts added to the numbers of a buffer
abbrev pub sum_at : List ℕ → List ℕ → ℕ → ℕ
sum_at counts tally i = get_or tally i 0 + get_or counts i 0

-- the end of a round, and a round that goes on
module _ (d : ℕ) (s : Counted) (bits : List ℕ) where
  pub round_going : (s.taken ≡ d → ⊥) → Closes d s bits s bits
  unfolding closed
  round_going h = λ tally. rw (ne_eqb s.taken d h)

  pub round_closed : s.taken ≡ d → {bits' : List ℕ} → bits' ≡ written (replicate (bit_bytes d) 0) bits
      → Closes d s bits (record { taken = 0; rounds = s.rounds + 1 }) bits'
  unfolding closed
  round_closed h e = λ tally. rw (eq-eqb s.taken d h, e)

-- the ways of a campaign draw to its answer, once its plan is opened for its record
pub draw_refused : (b bits tally : List ℕ) (n rounds d room : ℕ) {x : Refusal} → start_refusal b (record_of 0 0 bits tally) ≡ Some x
    → campaign_refusal b d (record_of n rounds bits tally) room ≡ Some x
unfolding start_refusal campaign_refusal
draw_refused b bits tally n rounds d room {x} e = due_first (start_tests b (record_of n rounds bits tally)) _ x e

module _ {b b' : List ℕ} (bits tally : List ℕ) (i : (b' ≡ b) × (start_refusal b (record_of 0 0 bits tally) ≡ None)) {t : Sizes} (o : open_answer b' ≡ Ok t) where
  module _ (n rounds d room : ℕ) where
    draw_by : campaign_refusal b d (record_of n rounds bits tally) room
        ≡ due (refuse Buffer (ltb room (t.rows * t.columns)) ∷ refuse Number (leb t.denominator d)
        ∷ refuse Record (not (fits (decode b) (record_of n rounds bits tally))) ∷ refuse Rounds (leb max_rounds rounds) ∷ refuse Taken (not (eqb (bit_of bits d) 0)) ∷ [])
    unfolding start_refusal campaign_refusal decode
    draw_by = rw (is_open b t (rw i.0 at o)).sizes (due_second (start_tests b (record_of n rounds bits tally)) _ i.1)

    pub short_counts : room < t.rows * t.columns → campaign_refusal b d (record_of n rounds bits tally) room ≡ Some Buffer
    unfolding due
    short_counts h = draw_by ∙ simp (lt-ltb _ _ h)

    module _ (h : t.rows * t.columns ≤ room) where
      pub number_above : t.denominator ≤ d → campaign_refusal b d (record_of n rounds bits tally) room ≡ Some Number
      unfolding due
      number_above l = draw_by ∙ simp (le-ltb _ _ h, le-leb _ _ l)

      module _ (l : d < t.denominator) (x : Bool) (xe : x ≡ fits (decode b') (record_of n rounds bits tally)) where
        fitting : x ≡ fits (decode b) (record_of n rounds bits tally)
        fitting = rw i.0 at xe

        pub not_fitting : not x ≡ true → campaign_refusal b d (record_of n rounds bits tally) room ≡ Some Record
        unfolding due
        not_fitting q = draw_by ∙ simp (le-ltb _ _ h, lt-leb _ _ l, sym fitting ∙ not-true x q)

        module _ (q : not x ≡ false) where
          pub all_done : max_rounds ≤ rounds → campaign_refusal b d (record_of n rounds bits tally) room ≡ Some Rounds
          unfolding due
          all_done m = draw_by ∙ simp (le-ltb _ _ h, lt-leb _ _ l, sym fitting ∙ not-false x q, le-leb _ _ m)

          module _ (m : rounds < max_rounds) (y : ℕ) (ye : y ≡ bit_of bits d) where
            pub is_taken : (y ≡ 0 → ⊥) → campaign_refusal b d (record_of n rounds bits tally) room ≡ Some Taken
            unfolding due
            is_taken z = draw_by ∙ simp (le-ltb _ _ h, lt-leb _ _ l, sym fitting ∙ not-false x q, lt-leb _ _ m, ne_eqb _ 0 (λ r. z (ye ∙ r)))

            pub is_accepted : y ≡ 0 → campaign_refusal b d (record_of n rounds bits tally) room ≡ None
            unfolding due
            is_accepted z = draw_by ∙ simp (le-ltb _ _ h, lt-leb _ _ l, sym fitting ∙ not-false x q, lt-leb _ _ m, eq-eqb _ 0 (sym ye ∙ z))

-- a campaign draw, by what is due of it
module _ (b : List ℕ) (s : CampaignRecord) (d : ℕ) (counts : List ℕ) where
  abbrev room : ℕ
  room = length counts

  draw_as : {counts' : List ℕ} {r : Result ⊤ Refusal} {s' : CampaignRecord}
      → Answers (campaign_refusal b d s room) (closed (decode b).denominator (taking (decode b) d s)) s r s'
      → counts' ≡ after (campaign_refusal b d s room) (written (drawn_array b d) counts) counts → Draws (λ a. a) (made b s (ask d counts)) r s' counts'
  unfolding made
  draw_as a e = record { answer = a.answer; left = a.left; result = e }

  pub draw_keeps : {x : Refusal} → campaign_refusal b d s room ≡ Some x → Draws (λ a. a) (made b s (ask d counts)) (Err x) s counts
  unfolding after
  draw_keeps k = draw_as (refused_so k) (rw k)

  -- what an accepted draw has passed
  module _ {b' : List ℕ} (i : (b' ≡ b) × (campaign_refusal b d s room ≡ None)) {t : Sizes} (o : open_answer b' ≡ Ok t) where
    none_due : campaign_refusal b d s room ≡ None
    none_due = i.1

    opened : open_answer b ≡ Ok t
    opened = rw i.0 at o

    opens : Opens b
    opens = (is_open b t opened).opens

    fitted : Fitted t s.bits s.tally
    unfolding campaign_refusal
    fitted = fitted_of b s _ none_due opened

    sized : Sized t b
    sized = opened_sized b t opened

    cells : t.rows * t.columns ≡ cell_count (decode b)
    cells = sym (cells_are sized)

    rest_due : due (refuse Buffer (ltb room (cell_count (decode b))) ∷ refuse Number (leb (decode b).denominator d)
        ∷ refuse Record (not (fits (decode b) s)) ∷ refuse Rounds (leb max_rounds s.rounds) ∷ refuse Taken (not (eqb (bit_of s.bits d) 0)) ∷ []) ≡ None
    unfolding campaign_refusal
    rest_due = after_start b s _ none_due

    long : t.rows * t.columns ≤ room
    long = rw cells (ltb-false _ _ (not_here _ _ rest_due))

    below : d < (decode b).denominator
    below = leb-false _ _ (not_here _ _ (not_later _ _ rest_due))

    fit : fits (decode b) s ≡ true
    fit = not-false _ (not_here _ _ (not_later _ _ (not_later _ _ rest_due)))

    going_on : s.rounds < max_rounds
    going_on = leb-false _ _ (not_here _ _ (not_later _ _ (not_later _ _ (not_later _ _ rest_due))))

    new : bit_of s.bits d ≡ 0
    new = eqb-true _ 0 (not-false _ (not_here _ _ (not_later _ _ (not_later _ _ (not_later _ _ (not_later _ _ rest_due))))))

    few : (decode b).denominator ≤ 65535
    few = omega (arith, denominator_is sized, sized_denominator sized)

    cell_small : (i : ℕ) → i < cell_count (decode b) → get_or (decode b).cells i 0 ≤ 65535000
    cell_small i l = omega (arith, (sound b opens).meets.within i (omega (arith, (sound b opens).cells)), few)

    -- what its callees ask
    pub array_asked : {n : ℕ} → n ≤ d → Drawing t n counts
    array_asked h = record { below = omega (arith, denominator_is sized, below); room = long }

    pub bit_asked : Unset d s.bits
    bit_asked = record { there = omega (arith, fitted.bits_room, denominator_is sized, below); unset = new }

    pub round_asked : {bits' : List ℕ} → bits' ≡ set s.bits (d / 8) (get_or s.bits (d / 8) 0 + 2 ^ (d % 8)) → Closable t.denominator s.rounds bits'
    round_asked q = record {
      going = going_on;
      small = sized_denominator sized;
      room = omega (arith, fitted.bits_room, ap length q ∙ length-set s.bits (d / 8) _);
    }

    pub count_small : s.taken + 1 ≤ 65535
    count_small = omega (arith, fit_count (decode b) s fit, count_room s.bits below new, few)

    module _ {counts' : List ℕ} (w : counts' ≡ written (drawn_array b' d) counts) where
      array_long : length (drawn_array b d) ≡ t.rows * t.columns
      array_long = array_length (sound b opens) below ∙ sym cells

      here : counts' ≡ written (drawn_array b d) counts
      here = rw i.0 at w

      part_is : take (t.rows * t.columns) counts' ≡ drawn_array b d
      part_is = ap (take (t.rows * t.columns)) here ∙ written_front (drawn_array b d) counts array_long

      pub part_within : t.rows * t.columns ≤ length counts'
      part_within = omega (arith, ap length here ∙ written_length (drawn_array b d) counts array_long long, long)

      pub part_long : t.rows * t.columns ≡ length (take (t.rows * t.columns) counts')
      part_long = sym (ap length part_is ∙ array_long)

      pub addable : Addends (take (t.rows * t.columns) counts') s.tally
      addable =
          let a : Addends (drawn_array b d) s.tally = record {
            tally_room = omega (arith, array_long, fitted.tally_room);
            small = λ i l.
                let l' : i < cell_count (decode b) = omega (arith, cells, array_long) in
                let before : s.rounds * get_or (decode b).cells i 0 ≤ max_rounds * 65535000 = mul-le-mul (let a : s.rounds ≤ max_rounds = omega (arith, going_on) in a) (cell_small i l') in
                omega (arith, fit_tally (decode b) s fit i l', tally_room (sound b opens) s.bits below new i, cell_small i l', before);
          } in
          rw part_is a

      -- what it leaves
      taken_as : {bits' tally' : List ℕ} → tally' ≡ written (tabulate (length (take (t.rows * t.columns) counts')) (sum_at (take (t.rows * t.columns) counts') s.tally)) s.tally
          → bits' ≡ set s.bits (d / 8) (get_or s.bits (d / 8) 0 + 2 ^ (d % 8)) → record_of (s.taken + 1) s.rounds bits' tally' ≡ taking (decode b) d s
      unfolding taking
      taken_as p q = rw (p, q, part_is, array_long, cells) refl

      pub draw_leaves : {bits' bits'' tally' : List ℕ} {r : Counted}
          → tally' ≡ written (tabulate (length (take (t.rows * t.columns) counts')) (sum_at (take (t.rows * t.columns) counts') s.tally)) s.tally
          → bits' ≡ set s.bits (d / 8) (get_or s.bits (d / 8) 0 + 2 ^ (d % 8))
          → Closes t.denominator (record { taken = s.taken + 1; rounds = s.rounds }) bits' r bits''
          → Draws (λ a. a) (made b s (ask d counts)) (Ok tt) (record_of r.taken r.rounds bits'' tally') counts'
      unfolding after
      draw_leaves {bits'} {bits''} {tally'} p q c =
          let is : record_of (s.taken + 1) s.rounds bits' tally' ≡ taking (decode b) d s = taken_as p q in
          rw (c tally') (draw_as (accepted_so none_due (rw (is, denominator_is sized))) (rw none_due here))
