-- A record that fits is that of a run: the numbers that it says were drawn, drawn after a start, leave it. Assumes nothing.
use Rattle.std.specs.Prelude.{Ok}
use mathlib.Core.Path.{◌≡◌, refl, sym, ap, ap₂, ◌∙◌, subst}
use mathlib.Core.Bool.{Bool, true, false, cond, ◌||◌, or-false, or-true}
use mathlib.Core.List.Memᴰ
use mathlib.Core.List.{List, [], ◌∷◌, ◌++◌, map, map-append, append_assoc, append-nil, Memᴰ as Member}
use Prim.Native.Nat.{ℕ, zero, suc, ◌+◌, ◌-◌, ◌*◌, ◌/◌, ◌<◌, ◌≤◌}
use native.Mathlib.Nat.{le_refl}
use native.Mathlib.Decide.{dec_lt, ℕ_discrete}
use native.Mathlib.Omega.{arith}
use lib.ListN.{length, get_or, drop, replicate, length-append, length-replicate, get_or-replicate}
use lib.Seq.{ext_get_or, get_or-drop, get_or-set_same, get_or-set_other}
use lib.Dec.{eqb}
use borrow.Author.Tests.{lt-leb, le-ltb, eq-eqb, ne_eqb, eqb-true}
use Rattle.base.specs.Lists.{join_to, sum_to}
use Rattle.base.specs.Buffers.{written}
use Rattle.base.proofs.Sums.{sum_ext, sum_beyond, sum_same, sum_term}
use Rattle.base.proofs.Tests.{by_test}
use Rattle.base.proofs.Buffers.{written_at, written_beyond}
use Rattle.weighted_arrays.specs.Plan.{Plan, cell_count}
use Rattle.form.specs.Form.{decode}
use Rattle.opening.specs.Open.{Opens}
use Rattle.opening.proofs.Sound.{sound}
use Rattle.bits.specs.Bits.{bit_of, bit_bytes}
use Rattle.bits.proofs.Bits.{bit_le, byte_set, same_byte}
use Rattle.records.specs.Record.{CampaignRecord, record_of, max_rounds, taken_sum, fits, room_for}
use Rattle.records.proofs.Long.{room_bits}
use Rattle.records.proofs.Holding.{fit_spare, fit_count, fit_rounds, fit_free, fit_going, fit_tally}
use Rattle.campaign_start.specs.Start.{cleared, started}
use Rattle.campaign_draw.specs.Draw.{taking, closed, Asked, ask, Made, made}
use Rattle.demands.specs.Runs.{draws, last_record, used, accepted, Rounds, one_more, further, rounds_of}
use Rattle.demands.specs.Claim.{RunClaim}
use Rattle.demands.specs.Resumed.{numbers_that, numbers_drawn, draws_before, Resumes}
use Rattle.demands.proofs.Spending.{used_accepted, over_accepted_lem}
use Rattle.demands.proofs.Rounds.{one_more_lem}
use Rattle.demands.proofs.Steps.{RunHolds, tally_bits, step_start}
use Rattle.demands.proofs.Runs.{a_number, start_left, step, is_done_lem, left_accepted}
use Rattle.demands.proofs.Campaigns.{claim}

-- one list of draws after another
draws_append : (b : List ℕ) (s : CampaignRecord) (k l : List Asked) → draws b s (k ++ l) ≡ draws b s k ++ draws b (last_record s (draws b s k)) l
unfolding draws last_record
draws_append b s [] l = refl
draws_append b s (x ∷ k) l = ap (λ (m : List Made). made b s x ∷ m) (draws_append b (made b s x).left k l)

last_append : (s : CampaignRecord) (h l : List Made) → last_record s (h ++ l) ≡ last_record (last_record s h) l
unfolding last_record
last_append s [] l = refl
last_append s (t ∷ h) l = last_append t.left h l

further_append : (d : ℕ) (r : Rounds) (h l : List Made) → further d r (h ++ l) ≡ further d (further d r h) l
unfolding further
further_append d r [] l = refl
further_append d r (t ∷ h) l = further_append d (one_more d r t) h l

-- a list whose elements are bytes
abbrev Bytes : List ℕ → Type 0
Bytes l = (i : ℕ) → get_or l i 0 < 256

-- two lists of one length with the same front and the same rest
same_lists : (n : ℕ) (a b : List ℕ) → length a ≡ length b → ((i : ℕ) → i < n → get_or a i 0 ≡ get_or b i 0) → drop n a ≡ drop n b → a ≡ b
same_lists n a b e front rest = ext_get_or 0 a b e (λ i l. at i (dec_lt i n))
  where
    beyond : (i : ℕ) → n ≤ i → get_or a i 0 ≡ get_or b i 0
    beyond i h =
        let k : n + (i - n) ≡ i = omega arith in
        let same : get_or a (n + (i - n)) 0 ≡ get_or b (n + (i - n)) 0 =
        sym (get_or-drop n a (i - n) 0) ∙ ap (λ (l : List ℕ). get_or l (i - n) 0) rest ∙ get_or-drop n b (i - n) 0 in
        rw k at same

    at : (i : ℕ) → Dec (i < n) → get_or a i 0 ≡ get_or b i 0
    at i (yes l) = front i l
    at i (no m) = beyond i (omega arith)

-- zero bytes written over bytes
zeros_bytes : (n : ℕ) (b : List ℕ) → Bytes b → Bytes (written (replicate n 0) b)
zeros_bytes n b h i = at (dec_lt i n)
  where
    at : Dec (i < n) → get_or (written (replicate n 0) b) i 0 < 256
    at (yes l) = rw (written_at (replicate n 0) b (length-replicate n 0) i l, get_or-replicate {A = ℕ} n i 0 0 l) (omega arith)
    at (no m) =
        let k : n + (i - n) ≡ i = omega arith in
        let same : get_or (written (replicate n 0) b) (n + (i - n)) 0 ≡ get_or b (n + (i - n)) 0 =
        sym (get_or-drop n (written (replicate n 0) b) (i - n) 0) ∙ ap (λ (l : List ℕ). get_or l (i - n) 0) (written_beyond (replicate n 0) b (length-replicate n 0))
        ∙ get_or-drop n b (i - n) 0 in
        rw (rw k at same) (h i)

-- an unset bit set in bytes
set_bytes : (p : Plan) (d : ℕ) (s : CampaignRecord) → d / 8 < length s.bits → bit_of s.bits d ≡ 0 → Bytes s.bits → Bytes (taking p d s).bits
unfolding taking
set_bytes p d s there unset h i = at (ℕ_discrete i (d / 8))
  where
    at : Dec (i ≡ d / 8) → get_or (taking p d s).bits i 0 < 256
    at (yes e) = rw (e, get_or-set_same s.bits (d / 8) _ 0 there) (byte_set s.bits d (h (d / 8)) unset)
    at (no n) = rw (get_or-set_other s.bits (d / 8) i _ 0 n) (h i)

closed_bytes : (d : ℕ) (s : CampaignRecord) → Bytes s.bits → Bytes (closed d s).bits
unfolding closed
closed_bytes d s h = by_test (λ (c : CampaignRecord). Bytes c.bits) (eqb s.taken d) (λ e. zeros_bytes (bit_bytes d) s.bits h) (λ e. h)

module _ (b : List ℕ) (o : Opens b) (s : CampaignRecord) (room : room_for (decode b) s ≡ true) where
  abbrev p : Plan
  p = decode b

  abbrev start : CampaignRecord
  start = (started b s).left

  -- Where a campaign stands after accepted draws h, with the rounds r and the record e: k rounds are completed, and of this round's numbers below n those are
  -- used that pass a test, and none from n on.
  record Stands (h : List Made) (r : Rounds) (e : CampaignRecord) (k n : ℕ) (test : ℕ → Bool) : Type 0 where
    run : RunHolds p s h r e
    all_done : (t : Made) → Member t h → t.answer ≡ Ok tt
    rounds : length r.completed ≡ k
    below : (d : ℕ) → d < n → used r.current d ≡ test d
    beyond : (d : ℕ) → n ≤ d → used r.current d ≡ false
    bytes : Bytes e.bits

  -- how many are used
  count : {h : List Made} {r : Rounds} {e : CampaignRecord} {k n : ℕ} {test : ℕ → Bool} → Stands h r e k n test → n ≤ p.denominator
      → accepted r.current ≡ sum_to n (λ d. cond (test d) 1 0)
  count {r = r} {n = n} at few =
      at.run.holds.current.over (λ a. 1)
      ∙ sum_beyond n p.denominator (λ d. cond (used r.current d) 1 0) few (λ d l m. ap (λ (t : Bool). cond t 1 0) (at.beyond d l))
      ∙ sum_ext n _ _ (λ d l. ap (λ (t : Bool). cond t 1 0) (at.below d l))

  -- the next number is drawn
  module _ {h : List Made} {r : Rounds} {e : CampaignRecord} {k n : ℕ} {test : ℕ → Bool} (at : Stands h r e k n test)
      (there : n < p.denominator) (going : k < max_rounds) where
    abbrev next : Asked
    next = ask n (replicate (cell_count p) 0)

    abbrev t : Made
    t = made b e next

    new : used r.current n ≡ false
    new = at.beyond n (omega arith)

    done : t.answer ≡ Ok tt
    done = is_done_lem b o s room at.run next (le-ltb (length next.buffer) (cell_count p) (omega (arith, length-replicate {A = ℕ} (cell_count p) 0)))
        (lt-leb p.denominator n there)
        (lt-leb max_rounds (length r.completed) (omega (arith, at.rounds))) new

    all_accepted : (u : Made) → Member u (h ++ (t ∷ [])) → u.answer ≡ Ok tt
    all_accepted = one_more_lem (λ (u : Made). u.answer ≡ Ok tt) h t at.all_done done

    more : accepted (r.current ++ (t ∷ [])) ≡ accepted r.current + 1
    more = over_accepted_lem r.current t done (λ u. 1)

    left_bytes : Bytes t.left.bits
    left_bytes =
        let c = at.run.holds.claim in
        let unset : bit_of e.bits n ≡ 0 = c.bits n there ∙ ap (λ (u : Bool). cond u 1 0) new in
        let long : n / 8 < length e.bits = omega (arith, room_bits p s room, c.bits_length) in
        rw (left_accepted b o s room at.run next done) (closed_bytes p.denominator _ (set_bytes p n e long unset at.bytes))

    used-now : (d : ℕ) → used (r.current ++ (t ∷ [])) d ≡ (used r.current d || eqb n d)
    unfolding made
    used-now d = used_accepted r.current t done d

    used-other : (d : ℕ) → (n ≡ d → ⊥) → used (r.current ++ (t ∷ [])) d ≡ used r.current d
    used-other d other = used-now d ∙ rw (ne_eqb n d other, or-false) refl

    -- a number is left in the round
    stays : test n ≡ true → accepted r.current + 1 < p.denominator → Stands (h ++ (t ∷ [])) (one_more p.denominator r t) t.left k (suc n) test
    unfolding one_more
    stays passes few = rw (ne_eqb (accepted (r.current ++ (t ∷ []))) p.denominator (λ q. omega (arith, more))) record {
      run = rw (ne_eqb (accepted (r.current ++ (t ∷ []))) p.denominator (λ q. omega (arith, more))) at (step b o s room at.run next);
      all_done = all_accepted;
      rounds = at.rounds;
      below = λ d l. at_or_below d (ℕ_discrete n d) l;
      beyond = λ d l. used-other d (λ q. omega arith) ∙ at.beyond d (omega arith);
      bytes = left_bytes;
    }
      where
        at_or_below : (d : ℕ) → Dec (n ≡ d) → d < suc n → used (r.current ++ (t ∷ [])) d ≡ test d
        at_or_below d (yes q) l = used-now d ∙ rw (eq-eqb n d q, ← q, passes) (or-true (used r.current n))
        at_or_below d (no m) l = used-other d m ∙ at.below d (omega arith)

    -- or it is completed
    completes : accepted r.current + 1 ≡ p.denominator → {other : ℕ → Bool} → Stands (h ++ (t ∷ [])) (one_more p.denominator r t) t.left (suc k) 0 other
    unfolding one_more used
    completes full = rw (eq-eqb (accepted (r.current ++ (t ∷ []))) p.denominator (more ∙ full)) record {
      run = rw (eq-eqb (accepted (r.current ++ (t ∷ []))) p.denominator (more ∙ full)) at (step b o s room at.run next);
      all_done = all_accepted;
      rounds = length-append r.completed ((r.current ++ (t ∷ [])) ∷ []) ∙ omega (arith, at.rounds);
      below = λ d l. absurd (omega arith);
      beyond = λ d l. refl;
      bytes = left_bytes;
    }

  -- after a list of draws
  abbrev After : List Asked → ℕ → ℕ → (ℕ → Bool) → Type 0
  After l k n test = Stands (draws b start l) (rounds_of p.denominator (draws b start l)) (last_record start (draws b start l)) k n test

  -- and one draw more
  after_one : (l : List Asked) (x : Asked) (k n : ℕ) (test : ℕ → Bool)
      → let h = draws b start l in
      let t = made b (last_record start h) x in
      Stands (h ++ (t ∷ [])) (one_more p.denominator (rounds_of p.denominator h) t) t.left k n test → After (l ++ (x ∷ [])) k n test
  unfolding draws further last_record
  after_one l x k n test at =
      rw (
        draws_append b start l (x ∷ []),
        further_append p.denominator (record { completed = []; current = [] }) (draws b start l) _,
        last_append start (draws b start l) _,
      ) at

  abbrev asks : List ℕ → List Asked
  asks l = map (λ d. ask d (replicate (cell_count p) 0)) l

  asks_more : (l : List Asked) (m : List ℕ) (d : ℕ) → l ++ asks (m ++ (d ∷ [])) ≡ (l ++ asks m) ++ (ask d (replicate (cell_count p) 0) ∷ [])
  asks_more l m d = ap (λ (x : List Asked). l ++ x) (map-append _ m (d ∷ [])) ∙ sym (append_assoc l (asks m) _)

  -- the numbers below n that pass a test, drawn in a new round
  in_round : (l : List Asked) (k : ℕ) (test : ℕ → Bool) → After l k 0 test → ((d : ℕ) → d < p.denominator → test d ≡ true → k < max_rounds)
      → (n : ℕ) → n ≤ p.denominator → sum_to n (λ d. cond (test d) 1 0) < p.denominator → After (l ++ asks (numbers_that n test)) k n test
  unfolding join_to sum_to
  in_round l k test at going zero few left = rw append-nil at
  in_round l k test at going (suc n) few left =
      go (test n) refl (in_round l k test at going n (omega arith) (omega arith))
    where
      go : (c : Bool) → test n ≡ c → After (l ++ asks (numbers_that n test)) k n test → After (l ++ asks (numbers_that n test ++ cond c (n ∷ []) [])) k (suc n) test
      go true e so_far =
          rw (asks_more l (numbers_that n test) n)
          (after_one (l ++ asks (numbers_that n test)) (ask n (replicate (cell_count p) 0)) k (suc n) test
          (stays so_far (omega arith) (going n (omega arith) e) e (omega (arith, count so_far (omega arith), ap (λ (c : Bool). cond {A = ℕ} c 1 0) e))))
      go false e so_far = rw append-nil record {
        run = so_far.run;
        all_done = so_far.all_done;
        rounds = so_far.rounds;
        below = λ d m. last d (ℕ_discrete d n) m;
        beyond = λ d m. so_far.beyond d (omega arith);
        bytes = so_far.bytes;
      }
        where
          last : (d : ℕ) → Dec (d ≡ n) → d < suc n → used (rounds_of p.denominator (draws b start (l ++ asks (numbers_that n test)))).current d ≡ test d
          last d (yes q) m = rw q (so_far.beyond n (omega arith) ∙ sym e)
          last d (no q) m = so_far.below d (omega arith)

  -- a whole round
  whole_round : (l : List Asked) (k : ℕ) → After l k 0 (λ _. true) → k < max_rounds
      → After (l ++ asks (numbers_that p.denominator (λ _. true))) (suc k) 0 (λ _. true)
  unfolding join_to
  whole_round l k at going = go p.denominator refl
    where
      go : (d : ℕ) → p.denominator ≡ d → After (l ++ asks (numbers_that d (λ _. true))) (suc k) 0 (λ _. true)
      go zero e = absurd (omega (arith, a_number b o))
      go (suc m) e =
          let few : sum_to m (λ d. 1) ≡ m * 1 = sum_same m 1 in
          let so_far = in_round l k (λ _. true) at (λ d h q. going) m (omega arith) (omega arith) in
          rw (asks_more l (numbers_that m (λ _. true)) m)
          (after_one (l ++ asks (numbers_that m (λ _. true))) (ask m (replicate (cell_count p) 0)) (suc k) 0 (λ _. true)
          (completes so_far (omega arith) going (omega (arith, count so_far (omega arith)))))

  -- before the first draw of a round every test will do
  any_test : {h : List Made} {r : Rounds} {e : CampaignRecord} {k : ℕ} {test other : ℕ → Bool} → Stands h r e k 0 test → Stands h r e k 0 other
  any_test at = record {
    run = at.run;
    all_done = at.all_done;
    rounds = at.rounds;
    below = λ d l. absurd (omega arith);
    beyond = at.beyond;
    bytes = at.bytes;
  }

  -- all rounds, after a start
  module _ (bytes : Bytes s.bits) where
    at_start : After [] 0 0 (λ _. true)
    unfolding draws further last_record used cleared
    at_start = record {
      run = subst (RunHolds p s [] (record { completed = []; current = [] })) (sym (start_left b o s room)) (step_start p s room (a_number b o));
      all_done = λ t m. absurd (Memᴰ.not-nil m);
      rounds = refl;
      below = λ d l. absurd (omega arith);
      beyond = λ d l. refl;
      bytes = rw (start_left b o s room) (zeros_bytes (bit_bytes p.denominator) s.bits bytes);
    }

    all_rounds : (k : ℕ) → k ≤ max_rounds → After (asks (join_to k (λ _. numbers_that p.denominator (λ _. true)))) k 0 (λ _. true)
    unfolding join_to
    all_rounds zero few = at_start
    all_rounds (suc k) few =
        let rounds : List ℕ = join_to k (λ _. numbers_that p.denominator (λ _. true)) in
        rw (map-append (λ (d : ℕ). ask d (replicate (cell_count p) 0)) rounds (numbers_that p.denominator (λ _. true)))
        (whole_round (asks rounds) k (all_rounds k (omega arith)) (omega arith))

    -- and then the numbers whose bits are set
    module _ (fit : fits p s ≡ true) where
      abbrev set_bit : ℕ → Bool
      set_bit d = eqb (bit_of s.bits d) 1

      as_bit : (d : ℕ) → cond (set_bit d) 1 0 ≡ bit_of s.bits d
      as_bit d = go (bit_of s.bits d) (bit_le s.bits d)
        where
          go : (x : ℕ) → x ≤ 1 → cond (eqb x 1) 1 0 ≡ x
          go zero h = refl
          go (suc zero) h = refl
          go (suc (suc x)) h = absurd (omega arith)

      taken_are : sum_to p.denominator (λ d. cond (set_bit d) 1 0) ≡ s.taken
      taken_are = sum_ext p.denominator _ _ (λ d l. as_bit d) ∙ sym (fit_count p s fit)

      going : (d : ℕ) → d < p.denominator → set_bit d ≡ true → s.rounds < max_rounds
      going d l e =
          let one : bit_of s.bits d ≡ 1 = eqb-true _ _ e in
          fit_going p s fit (omega (arith, one, fit_count p s fit, sum_term p.denominator (bit_of s.bits) d l))

      at_end : After (draws_before p s) s.rounds p.denominator set_bit
      unfolding numbers_drawn
      at_end =
          let rounds : List ℕ = join_to s.rounds (λ _. numbers_that p.denominator (λ _. true)) in
          rw (map-append (λ (d : ℕ). ask d (replicate (cell_count p) 0)) rounds (numbers_that p.denominator set_bit))
          (in_round (asks rounds) s.rounds set_bit (any_test (all_rounds s.rounds (fit_rounds p s fit))) going p.denominator (le_refl _)
          (omega (arith, taken_are, fit_free p s fit)))

      abbrev run : List Made
      run = draws b start (draws_before p s)

      abbrev end : CampaignRecord
      end = last_record start run

      -- the record that is left, part by part
      same_rounds : end.rounds ≡ s.rounds
      same_rounds = at_end.run.holds.claim.rounds ∙ at_end.rounds

      same_count : end.taken ≡ s.taken
      same_count = at_end.run.holds.claim.count ∙ count at_end (le_refl _) ∙ taken_are

      same_bit : (d : ℕ) → d < 8 * bit_bytes p.denominator → bit_of end.bits d ≡ bit_of s.bits d
      same_bit d l = go (dec_lt d p.denominator)
        where
          go : Dec (d < p.denominator) → bit_of end.bits d ≡ bit_of s.bits d
          go (yes h) = at_end.run.holds.claim.bits d h ∙ ap (λ (u : Bool). cond u 1 0) (at_end.below d h) ∙ as_bit d
          go (no n) = at_end.run.holds.claim.spare d (omega arith) l ∙ sym (fit_spare p s fit d (omega arith) l)

      same_bits : end.bits ≡ s.bits
      same_bits = same_lists (bit_bytes p.denominator) end.bits s.bits at_end.run.holds.claim.bits_length
          (λ i l. same_byte end.bits s.bits i (at_end.bytes i) (bytes i) (λ d q. same_bit d (omega arith)))
          at_end.run.holds.claim.bits_beyond

      same_tally : end.tally ≡ s.tally
      same_tally = same_lists (cell_count p) end.tally s.tally at_end.run.holds.claim.tally_length
          (λ i l.
          tally_bits (sound b o) at_end.run i l
          ∙ ap₂ (λ (k : ℕ) (l : List ℕ). k * get_or p.cells i 0 + taken_sum p l i) same_rounds same_bits
          ∙ sym (fit_tally p s fit i l))
          at_end.run.holds.claim.tally_beyond

      same_record : end ≡ s
      same_record =
          let parts : record_of end.taken end.rounds end.bits end.tally ≡ record_of s.taken s.rounds s.bits s.tally =
          rw (same_count, same_rounds, same_bits, same_tally) refl in
          parts

      goes_on_is : (l : List Asked) → draws b start (draws_before p s ++ l) ≡ run ++ draws b s l
      goes_on_is l = draws_append b start (draws_before p s) l ∙ ap (λ (e : CampaignRecord). run ++ draws b e l) same_record

      held : (l : List Asked)
          → let all = run ++ draws b s l in
          RunClaim b s (draws_before p s ++ l) p all (rounds_of p.denominator all) (last_record s (draws b s l))
      held l =
          let last : last_record start (run ++ draws b s l) ≡ last_record s (draws b s l) =
          last_append start run (draws b s l) ∙ ap (λ (e : CampaignRecord). last_record e (draws b s l)) same_record in
          let all = claim b o s (draws_before p s ++ l) room in
          rw (goes_on_is l, last) at all

pub resumes : (b : List ℕ) → Opens b → Resumes b
resumes b o s r = record {
  each_done = (at_end b o s r.room r.bytes r.fits).all_done;
  left = same_record b o s r.room r.bytes r.fits;
  goes_on_is = goes_on_is b o s r.room r.bytes r.fits;
  held = held b o s r.room r.bytes r.fits;
}
