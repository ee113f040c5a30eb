-- What holds after each draw of a run, of its rounds and of the record. Assumes nothing.
use Rattle.std.specs.Prelude.{Ok, Err}
use mathlib.Core.Path.{◌≡◌, refl, sym, ap, ap₂, ◌∙◌, subst}
use mathlib.Core.Bool.{Bool, true, false, cond, ◌||◌}
use mathlib.Core.List.Memᴰ
use mathlib.Core.List.{List, [], ◌∷◌, ◌++◌, Memᴰ as Member}
use Prim.Native.Nat.{ℕ, ◌+◌, ◌*◌, ◌/◌, ◌<◌, ◌≤◌}
use native.Mathlib.Omega.{arith}
use lib.ListN.{length, get_or, take, replicate, length-set, length-append, length-replicate, get_or-replicate}
use lib.Seq.{drop-set-lt}
use lib.Dec.{ltb, eqb}
use borrow.Author.Tests.{le-leb, lt-ltb, ltb-false, eqb-true, eqb-false, eq-eqb, ne_eqb}
use Rattle.base.specs.Lists.{sum, tabulate, sum_to}
use Rattle.base.specs.Buffers.{written}
use Rattle.base.proofs.Lists.{length_tabulate, get_d_tabulate, all_tabulate}
use Rattle.base.proofs.Sums.{sum_ext}
use Rattle.base.proofs.Tests.{test_times, test_or}
use Rattle.base.proofs.Buffers.{written_at, written_length, written_beyond}
use Rattle.table.specs.Table.{total}
use Rattle.table.proofs.Totals.{total_one}
use Rattle.refusals.specs.declared.Refusal.{Refusal}
use Rattle.weighted_arrays.specs.Plan.{Plan, cell_count, array_for}
use Rattle.opening.proofs.Sound.{Sound}
use Rattle.records.specs.Record.{CampaignRecord, record_of, max_rounds, taken_sum, within, fits, room_for}
use Rattle.bits.specs.Bits.{bit_of, bit_bytes, spare_clear}
use Rattle.campaign_start.specs.Start.{cleared}
use Rattle.campaign_draw.specs.Draw.{taking, closed, Made}
use Rattle.bits.proofs.Bits.{bit_set, bit_clear}
use Rattle.records.proofs.Long.{room_bits, room_tally}
use Rattle.demands.specs.Runs.{used, over_accepted, accepted, drawn, Rounds, one_more, in_turn}
use Rattle.demands.specs.Claim.{RecordClaim}
use Rattle.demands.proofs.Spending.{used_accepted, over_accepted_lem, used_refused, over_refused, Spent, spent_none, spent_refused, spent_accepted}
use Rattle.demands.proofs.Rounds.{planned, in_turn_more, in_turn_closed, drawn_in_turn, one_more_lem}

-- a round whose D numbers are all spent
pub record Full (p : Plan) (round : List Made) : Type 0 where
  pub spent : Spent p round
  pub full : accepted round ≡ p.denominator

-- After the draws h of a run on plan p, started with record s₀, the rounds are r and the record is s, as the claim says of it.
pub record Holds (p : Plan) (s₀ : CampaignRecord) (h : List Made) (r : Rounds) (s : CampaignRecord) : Type 0 where
  pub claim : RecordClaim p s₀ h r s
  pub in_turn_is : in_turn r.completed r.current ≡ h
  pub current : Spent p r.current
  pub completed : (c : List Made) → Member c r.completed → Full p c

-- And the campaign is where it can stand after a draw: a number is left, at most 1,000 rounds are completed, and after 1,000 nothing is accepted.
pub record RunHolds (p : Plan) (s₀ : CampaignRecord) (h : List Made) (r : Rounds) (s : CampaignRecord) : Type 0 where
  pub holds : Holds p s₀ h r s
  pub left : accepted r.current < p.denominator
  pub few : length r.completed ≤ max_rounds
  pub over : length r.completed ≡ max_rounds → accepted r.current ≡ 0

-- what all rounds drew
pub drawn_all : {p : Plan} {s₀ s : CampaignRecord} {h : List Made} {r : Rounds} → Sound p → Holds p s₀ h r s → (places : List ℕ)
    → drawn p h places ≡ length r.completed * total p.cells places + drawn p r.current places
drawn_all {p} {r = r} o holds places =
    ap (λ (k : List Made). drawn p k places) (sym holds.in_turn_is)
    ∙ drawn_in_turn p places (total p.cells places) r.completed r.current (λ c m. let f = holds.completed c m in planned o f.spent f.full places)

module _ {p : Plan} {s₀ s : CampaignRecord} {h : List Made} {r : Rounds} (o : Sound p) (run : RunHolds p s₀ h r s) where
  abbrev holds : Holds p s₀ h r s
  holds = run.holds

  -- count and tally by the bits, as a fitting record has them
  count_bits : s.taken ≡ sum_to p.denominator (bit_of s.bits)
  count_bits = holds.claim.count ∙ holds.current.over (λ a. 1) ∙ sum_ext p.denominator _ _ (λ d l. sym (holds.claim.bits d l))

  pub tally_bits : (i : ℕ) → i < cell_count p → get_or s.tally i 0 ≡ s.rounds * get_or p.cells i 0 + taken_sum p s.bits i
  tally_bits i l =
      holds.claim.tally i l ∙ drawn_all o holds (i ∷ [])
      ∙ ap₂ ◌+◌ (ap₂ ◌*◌ (sym holds.claim.rounds) (total_one p.cells i))
      (holds.current.over (λ a. total a (i ∷ [])) ∙ sum_ext p.denominator _ _ (λ d m. rw (total_one, test_times, holds.claim.bits d m)))

  stands : within p.denominator s.taken s.rounds ≡ true
  unfolding within
  stands =
      rw (le-leb s.rounds max_rounds (omega (arith, holds.claim.rounds, run.few)), lt-ltb s.taken p.denominator (omega (arith, holds.claim.count, run.left)))
      (by_last (ltb s.rounds max_rounds) refl)
    where
      by_last : (t : Bool) → ltb s.rounds max_rounds ≡ t → (ltb s.rounds max_rounds || eqb s.taken 0) ≡ true
      by_last true e = rw e refl
      by_last false e =
          let done : s.rounds ≡ max_rounds = omega (arith, ltb-false s.rounds max_rounds e, holds.claim.rounds, run.few) in
          rw (e, eq-eqb s.taken 0 (holds.claim.count ∙ run.over (sym holds.claim.rounds ∙ done))) refl

  -- the record fits the plan, so no draw of a run is answered 9
  pub fits_run : fits p s ≡ true
  unfolding fits
  fits_run =
      let spare : spare_clear p.denominator s.bits ≡ true =
      all_tabulate _ _ (λ i. i) (λ i l. eq-eqb _ _ (holds.claim.spare (p.denominator + i) (omega arith) (omega arith))) in
      let count : eqb s.taken (sum_to p.denominator (bit_of s.bits)) ≡ true = eq-eqb _ _ count_bits in
      let tally = all_tabulate (λ i. eqb (get_or s.tally i 0) (s.rounds * get_or p.cells i 0 + taken_sum p s.bits i)) (cell_count p) (λ i. i)
      (λ i l. eq-eqb _ _ (tally_bits i l)) in
      rw (spare, count, stands, tally)

-- a draw more in the round that goes on
abbrev with : Rounds → Made → Rounds
with r t = record { completed = r.completed; current = r.current ++ (t ∷ []) }

-- a refused draw changes nothing, and completes no round
module _ {p : Plan} {s₀ s : CampaignRecord} {h : List Made} {r : Rounds} (run : RunHolds p s₀ h r s) (t : Made) {x : Refusal} (a : t.answer ≡ Err x) where
  holds_refused : Holds p s₀ (h ++ (t ∷ [])) (with r t) s
  holds_refused =
      let holds = run.holds in
      record {
        claim = record {
          rounds = holds.claim.rounds;
          count = holds.claim.count ∙ sym (over_refused r.current t a _);
          bits = λ d l. rw (used_refused r.current t a d) (holds.claim.bits d l);
          spare = holds.claim.spare;
          tally = λ i l. holds.claim.tally i l ∙ sym (over_refused h t a _);
          bits_beyond = holds.claim.bits_beyond;
          tally_beyond = holds.claim.tally_beyond;
          bits_length = holds.claim.bits_length;
          tally_length = holds.claim.tally_length;
        };
        in_turn_is = in_turn_more r.completed r.current t ∙ ap (λ (k : List Made). k ++ (t ∷ [])) holds.in_turn_is;
        current = spent_refused holds.current t a;
        completed = holds.completed;
      }

  same : accepted (r.current ++ (t ∷ [])) ≡ accepted r.current
  same = over_refused r.current t a (λ u. 1)

  pub step_refused : RunHolds p s₀ (h ++ (t ∷ [])) (one_more p.denominator r t) s
  unfolding one_more
  step_refused = rw (ne_eqb (accepted (r.current ++ (t ∷ []))) p.denominator (λ e. omega (arith, same, run.left))) record {
    holds = holds_refused;
    left = omega (arith, same, run.left);
    few = run.few;
    over = λ e. same ∙ run.over e;
  }

-- an accepted draw of a number that is not used in this round
module _ {p : Plan} {s₀ s : CampaignRecord} {h : List Made} {r : Rounds} (holds : Holds p s₀ h r s) (room : room_for p s₀ ≡ true) (t : Made)
    (a : t.answer ≡ Ok tt) (below : t.asked.number < p.denominator) (new : used r.current t.asked.number ≡ false)
    (wrote : take (cell_count p) t.result ≡ array_for p.arrays t.asked.number) where
  set_bit : (e : ℕ) → bit_of (taking p t.asked.number s).bits e ≡ cond (eqb t.asked.number e) 1 (bit_of s.bits e)
  unfolding taking
  set_bit e = bit_set s.bits t.asked.number e (omega (arith, room_bits p s₀ room, holds.claim.bits_length))
      (holds.claim.bits t.asked.number below ∙ ap (λ (u : Bool). cond u 1 0) new)

  claim_accepted : RecordClaim p s₀ (h ++ (t ∷ [])) (with r t) (taking p t.asked.number s)
  unfolding taking
  claim_accepted =
      let c : List ℕ = tabulate (cell_count p) (λ i. get_or s.tally i 0 + get_or (array_for p.arrays t.asked.number) i 0) in
      let ce : length c ≡ cell_count p = length_tabulate _ _ in
      record {
        rounds = holds.claim.rounds;
        count = ap (λ (m : ℕ). m + 1) holds.claim.count ∙ sym (over_accepted_lem r.current t a _);
        bits = λ e l. set_bit e ∙ rw (holds.claim.bits e l, used_accepted r.current t a e) (test_or (used r.current e) (eqb t.asked.number e));
        spare = λ e l m. set_bit e ∙ rw (ne_eqb t.asked.number e (λ q. omega arith)) (holds.claim.spare e l m);
        tally = λ i l.
            written_at c s.tally ce i l ∙ get_d_tabulate (cell_count p) (λ j. get_or s.tally j 0 + get_or (array_for p.arrays t.asked.number) j 0) i 0 l
            ∙ ap₂ ◌+◌ (holds.claim.tally i l) (sym (ap (λ (x : List ℕ). total x (i ∷ [])) wrote ∙ total_one _ i))
            ∙ sym (over_accepted_lem h t a _);
        bits_beyond = drop-set-lt (bit_bytes p.denominator) s.bits (t.asked.number / 8) _ (omega arith) ∙ holds.claim.bits_beyond;
        tally_beyond = written_beyond c s.tally ce ∙ holds.claim.tally_beyond;
        bits_length = length-set s.bits (t.asked.number / 8) _ ∙ holds.claim.bits_length;
        tally_length = written_length c s.tally ce (omega (arith, room_tally p s₀ room, holds.claim.tally_length)) ∙ holds.claim.tally_length;
      }

  holds_accepted : Holds p s₀ (h ++ (t ∷ [])) (with r t) (taking p t.asked.number s)
  holds_accepted = record {
    claim = claim_accepted;
    in_turn_is = in_turn_more r.completed r.current t ∙ ap (λ (k : List Made). k ++ (t ∷ [])) holds.in_turn_is;
    current = spent_accepted holds.current t a below new wrote;
    completed = holds.completed;
  }

-- what a completed round leaves of the record
abbrev emptied : ℕ → CampaignRecord → CampaignRecord
emptied d s = record_of 0 (s.rounds + 1) (written (replicate (bit_bytes d) 0) s.bits) s.tally

closed_by : (d : ℕ) {n : ℕ} (s : CampaignRecord) → s.taken ≡ n → closed d s ≡ cond (eqb n d) (emptied d s) s
unfolding closed
closed_by d s e = ap (λ (m : ℕ). cond (eqb m d) (emptied d s) s) e

-- a completed round makes room for the next
module _ {p : Plan} {s₀ s : CampaignRecord} {h : List Made} {r : Rounds} (holds : Holds p s₀ h r s) (room : room_for p s₀ ≡ true)
    (full : accepted r.current ≡ p.denominator) where
  abbrev next : Rounds
  next = record { completed = r.completed ++ (r.current ∷ []); current = [] }

  rounds_more : length next.completed ≡ length r.completed + 1
  rounds_more = length-append r.completed (r.current ∷ [])

  holds_closed : Holds p s₀ h next (emptied p.denominator s)
  unfolding over_accepted sum used
  holds_closed =
      let b : List ℕ = replicate (bit_bytes p.denominator) 0 in
      let be : length b ≡ bit_bytes p.denominator = length-replicate _ 0 in
      record {
        claim = record {
          rounds = ap (λ (n : ℕ). n + 1) holds.claim.rounds ∙ sym rounds_more;
          count = refl;
          bits = λ d l. bit_clear (bit_bytes p.denominator) s.bits d (omega arith);
          spare = λ d l m. bit_clear _ s.bits d m;
          tally = holds.claim.tally;
          bits_beyond = written_beyond b s.bits be ∙ holds.claim.bits_beyond;
          tally_beyond = holds.claim.tally_beyond;
          bits_length = written_length b s.bits be (omega (arith, room_bits p s₀ room, holds.claim.bits_length)) ∙ holds.claim.bits_length;
          tally_length = holds.claim.tally_length;
        };
        in_turn_is = in_turn_closed r.completed r.current ∙ holds.in_turn_is;
        current = spent_none p;
        completed = one_more_lem (Full p) r.completed r.current holds.completed (record { spent = holds.current; full = full });
      }

-- an accepted draw, with the round that it may complete
module _ {p : Plan} {s₀ s : CampaignRecord} {h : List Made} {r : Rounds} (run : RunHolds p s₀ h r s) (room : room_for p s₀ ≡ true)
    (some : 1 ≤ p.denominator) (t : Made) (a : t.answer ≡ Ok tt) (below : t.asked.number < p.denominator) (going : length r.completed < max_rounds)
    (new : used r.current t.asked.number ≡ false)
    (wrote : take (cell_count p) t.result ≡ array_for p.arrays t.asked.number) where
  abbrev counted : ℕ
  counted = accepted (r.current ++ (t ∷ []))

  taken : Holds p s₀ (h ++ (t ∷ [])) (with r t) (taking p t.asked.number s)
  taken = holds_accepted run.holds room t a below new wrote

  more : counted ≡ accepted r.current + 1
  more = over_accepted_lem r.current t a (λ u. 1)

  pub step_accepted : RunHolds p s₀ (h ++ (t ∷ [])) (one_more p.denominator r t) (closed p.denominator (taking p t.asked.number s))
  unfolding one_more over_accepted sum
  step_accepted = subst (RunHolds p s₀ (h ++ (t ∷ [])) (one_more p.denominator r t)) (sym (closed_by p.denominator _ taken.claim.count))
      (go (eqb counted p.denominator) refl)
    where
      go : (full : Bool) → eqb counted p.denominator ≡ full
          → RunHolds p s₀ (h ++ (t ∷ [])) (cond full (record { completed = r.completed ++ ((r.current ++ (t ∷ [])) ∷ []); current = [] }) (with r t))
          (cond full (emptied p.denominator (taking p t.asked.number s)) (taking p t.asked.number s))
      go true e = record {
        holds = holds_closed taken room (eqb-true _ _ e);
        left = some;
        few = omega (arith, rounds_more taken room (eqb-true _ _ e));
        over = λ q. refl;
      }
      go false e = record {
        holds = taken;
        left = omega (arith, more, run.left, eqb-false counted p.denominator e);
        few = run.few;
        over = λ q. absurd (omega arith);
      }

-- a start clears the record
module _ (p : Plan) (s₀ : CampaignRecord) (room : room_for p s₀ ≡ true) (some : 1 ≤ p.denominator) where
  pub step_start : RunHolds p s₀ [] (record { completed = []; current = [] }) (cleared p s₀)
  unfolding cleared over_accepted sum used in_turn
  step_start =
      let b : List ℕ = replicate (bit_bytes p.denominator) 0 in
      let be : length b ≡ bit_bytes p.denominator = length-replicate _ 0 in
      let c : List ℕ = replicate (cell_count p) 0 in
      let ce : length c ≡ cell_count p = length-replicate _ 0 in
      record {
        holds = record {
          claim = record {
            rounds = refl;
            count = refl;
            bits = λ d l. bit_clear (bit_bytes p.denominator) s₀.bits d (omega arith);
            spare = λ d l m. bit_clear _ s₀.bits d m;
            tally = λ i l. written_at c s₀.tally ce i l ∙ get_or-replicate {A = ℕ} (cell_count p) i 0 0 l;
            bits_beyond = written_beyond b s₀.bits be;
            tally_beyond = written_beyond c s₀.tally ce;
            bits_length = written_length b s₀.bits be (room_bits p s₀ room);
            tally_length = written_length c s₀.tally ce (room_tally p s₀ room);
          };
          in_turn_is = refl;
          current = spent_none p;
          completed = λ k m. absurd (Memᴰ.not-nil m);
        };
        left = some;
        few = omega arith;
        over = λ q. refl;
      }
