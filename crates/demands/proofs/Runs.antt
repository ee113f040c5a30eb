-- A run: a start and any list of draws, with its rounds. Assumes nothing.
use Rattle.std.specs.Prelude.{Option, Some, None, Ok, Err}
use mathlib.Core.Path.{◌≡◌, refl, sym, ap, ap₂, ◌∙◌, subst}
use mathlib.Core.Bool.{Bool, true, false, not, cond}
use mathlib.Core.List.{List, [], ◌∷◌, ◌++◌, map, append_assoc, append-nil}
use Prim.Native.Nat.{ℕ, ◌≤◌}
use native.Mathlib.Omega.{arith}
use lib.Dec.{leb, ltb, eqb}
use lib.ListN.{length, take}
use borrow.Author.Tests.{leb-false}
use Rattle.base.specs.Buffers.{written}
use Rattle.base.proofs.Buffers.{written_front}
use Rattle.refusals.specs.declared.Refusal.{Refusal}
use Rattle.refusals.specs.declared.Refusal.TheVariants.{Buffer, Number, Record, Taken}
use Rattle.refusals.specs.declared.Refusal.TheVariants as refusal
use Rattle.refusals.specs.Answer.{answer_number}
use Rattle.refusals.specs.Due.{Test, refuse, due, answer_of, after}
use Rattle.refusals.proofs.Dues.{due_second, not_here, not_later}
use Rattle.weighted_arrays.specs.Plan.{Plan, cell_count}
use Rattle.form.specs.Form.{sizes_of, decode}
use Rattle.reading.specs.Clauses.{Sized}
use Rattle.reading.proofs.Sizing.{denominator_is, sized_some}
use Rattle.opening.specs.Open.{open_tests, open_refusal, Opens}
use Rattle.drawing.specs.Draw.{draw_refusal, drawn_array}
use Rattle.records.specs.Record.{CampaignRecord, max_rounds, room_for}
use Rattle.bits.specs.Bits.{bit_of}
use Rattle.campaign_start.specs.Start.{start_tests, start_refusal, cleared, started}
use Rattle.campaign_draw.specs.Draw.{campaign_refusal, taking, closed, Asked, Made, made}
use Rattle.demands.specs.Runs.{draws, last_record, used, Rounds, one_more, further}
use Rattle.demands.specs.Claim.{DrawClaim}
use Rattle.opening.proofs.Opening.{opens_layout}
use Rattle.opening.proofs.Sound.{sound}
use Rattle.records.proofs.Numbers.{array_length}
use Rattle.demands.proofs.Steps.{RunHolds, fits_run, step_refused, step_accepted}

-- the refusals that a draw of a run can meet
abbrev run_tests : Plan → Rounds → Asked → List Test
run_tests p r x =
    refuse Buffer (ltb (length x.buffer) (cell_count p))
    ∷ refuse Number (leb p.denominator x.number)
    ∷ refuse refusal.Rounds (leb max_rounds (length r.completed))
    ∷ refuse Taken (used r.current x.number)
    ∷ []

-- and their numbers
number_due_lem : (short above done taken : Bool)
    → answer_number (answer_of (due (refuse Buffer short ∷ refuse Number above ∷ refuse refusal.Rounds done ∷ refuse Taken taken ∷ [])))
    ≡ cond short 7 (cond above 8 (cond done 13 (cond taken 10 0)))
unfolding due answer_of
number_due_lem true above done taken = refl
number_due_lem false true done taken = refl
number_due_lem false false true taken = refl
number_due_lem false false false true = refl
number_due_lem false false false false = refl

-- no draw of a run is refused by 9, the record's rounds are the completed ones, and a number below D is taken if it is used
same_due : (short above unfit done taken : Bool) {over used : Bool} → unfit ≡ false → done ≡ over → (above ≡ false → taken ≡ used)
    → due (refuse Buffer short ∷ refuse Number above ∷ refuse Record unfit ∷ refuse refusal.Rounds done ∷ refuse Taken taken ∷ [])
    ≡ due (refuse Buffer short ∷ refuse Number above ∷ refuse refusal.Rounds over ∷ refuse Taken used ∷ [])
unfolding due
same_due true above unfit done taken h m l = refl
same_due false true unfit done taken h m l = refl
same_due false false unfit done taken {over} {used} h m l =
    let fit : due (refuse Record unfit ∷ refuse refusal.Rounds done ∷ refuse Taken taken ∷ []) ≡ due (refuse refusal.Rounds done ∷ refuse Taken taken ∷ []) = rw h in
    fit ∙ ap₂ (λ (x y : Bool). due (refuse refusal.Rounds x ∷ refuse Taken y ∷ [])) m (l refl)

set_if : (u : Bool) → not (eqb (cond u 1 0) 0) ≡ u
set_if true = refl
set_if false = refl

-- an answer tells what was due
done_none : (o : Option Refusal) → answer_of o ≡ Ok tt → o ≡ None
unfolding answer_of
done_none None e = refl
done_none (Some x) e = cc

refused_some : (o : Option Refusal) {x : Refusal} → answer_of o ≡ Err x → o ≡ Some x
unfolding answer_of
refused_some None e = cc
refused_some (Some y) e = cc

no_draw : {t : Made} {l : List Made} → [] ≡ t ∷ l → ⊥
no_draw e = cc

-- the tests that an accepted draw has passed
record Unrefused (p : Plan) (r : Rounds) (x : Asked) : Type 0 where
  room : ltb (length x.buffer) (cell_count p) ≡ false
  below : leb p.denominator x.number ≡ false
  going : leb max_rounds (length r.completed) ≡ false
  new : used r.current x.number ≡ false

-- a plan that opens has a number to draw
pub a_number : (b : List ℕ) → Opens b → 1 ≤ (decode b).denominator
a_number b o =
    let sized : Sized (sizes_of b) b = record { laid_out_is = opens_layout b o; sizes = refl } in
    omega (arith, denominator_is sized, sized_some sized)

module _ (b : List ℕ) (o : Opens b) (s₀ : CampaignRecord) (room : room_for (decode b) s₀ ≡ true) where
  start_due : (s : CampaignRecord) → room_for (decode b) s ≡ true → start_refusal b s ≡ None
  unfolding start_refusal open_refusal due
  start_due s h = due_second (open_tests b) (refuse Buffer (not (room_for (decode b) s)) ∷ []) o ∙ simp h

  pub start_done : (started b s₀).answer ≡ Ok tt
  unfolding started answer_of
  start_done = ap answer_of (start_due s₀ room)

  pub start_left : (started b s₀).left ≡ cleared (decode b) s₀
  unfolding started after
  start_left = rw (start_due s₀ room)

  -- a draw of a run
  module _ {h : List Made} {r : Rounds} {s : CampaignRecord} (run : RunHolds (decode b) s₀ h r s) (x : Asked) where
    abbrev asked : Option Refusal
    asked = campaign_refusal b x.number s (length x.buffer)

    room_now : room_for (decode b) s ≡ true
    room_now = rw (run.holds.claim.bits_length, run.holds.claim.tally_length) room

    bit_test : leb (decode b).denominator x.number ≡ false → not (eqb (bit_of s.bits x.number) 0) ≡ used r.current x.number
    bit_test l = rw (run.holds.claim.bits x.number (leb-false _ _ l)) (set_if (used r.current x.number))

    -- what is due, by the draws before
    due_by : asked ≡ due (run_tests (decode b) r x)
    unfolding campaign_refusal start_refusal
    due_by = due_second (start_tests b s) _ (start_due s room_now)
        ∙ same_due _ _ _ _ _ (ap not (fits_run (sound b o) run)) (ap (leb max_rounds) run.holds.claim.rounds) bit_test

    passed : asked ≡ None → Unrefused (decode b) r x
    passed e =
        let d = sym due_by ∙ e in
        record {
          room = not_here _ _ d;
          below = not_here _ _ (not_later _ _ d);
          going = not_here _ _ (not_later _ _ (not_later _ _ d));
          new = not_here _ _ (not_later _ _ (not_later _ _ (not_later _ _ d)));
        }

    plain_draw : asked ≡ None → draw_refusal b x.number (length x.buffer) ≡ None
    unfolding draw_refusal open_refusal decode due
    plain_draw e =
        let t = passed e in
        due_second (open_tests b) (refuse Buffer (ltb (length x.buffer) (cell_count (decode b))) ∷ refuse Number (leb (decode b).denominator x.number) ∷ []) o
        ∙ simp (t.room, t.below)

    result_by : {k : Option Refusal} → asked ≡ k → (made b s x).result ≡ after k (written (drawn_array b x.number) x.buffer) x.buffer
    unfolding made
    result_by e = rw e

    left_by : {k : Option Refusal} → asked ≡ k → (made b s x).left ≡ after k (closed (decode b).denominator (taking (decode b) x.number s)) s
    unfolding made
    left_by e = rw e

    -- a draw that meets none of the four is accepted
    pub is_done_lem : ltb (length x.buffer) (cell_count (decode b)) ≡ false → leb (decode b).denominator x.number ≡ false
        → leb max_rounds (length r.completed) ≡ false → used r.current x.number ≡ false → (made b s x).answer ≡ Ok tt
    unfolding made answer_of due
    is_done_lem long below going new =
        let nothing : due (run_tests (decode b) r x) ≡ None = simp (long, below, going, new) in
        ap answer_of (due_by ∙ nothing)

    -- and what it leaves of the record
    pub left_accepted : (made b s x).answer ≡ Ok tt → (made b s x).left ≡ closed (decode b).denominator (taking (decode b) x.number s)
    unfolding made after
    left_accepted e = left_by (done_none _ e)

    pub draw_claim : DrawClaim b r (made b s x)
    unfolding made after
    draw_claim = record {
      number = ap (λ (o : Option Refusal). answer_number (answer_of o)) due_by ∙ number_due_lem _ _ _ _;
      wrote = λ e. let n = done_none _ e in (plain_draw n, result_by n);
      kept = λ y e. let n = refused_some _ e in (result_by n, left_by n);
    }

    -- what stands in the buffer for the array after an accepted draw
    front : asked ≡ None → take (cell_count (decode b)) (made b s x).result ≡ drawn_array b x.number
    unfolding after
    front e = ap (take (cell_count (decode b))) (result_by e) ∙ written_front _ x.buffer (array_length (sound b o) (leb-false _ _ (passed e).below))

    pub step : RunHolds (decode b) s₀ (h ++ (made b s x ∷ [])) (one_more (decode b).denominator r (made b s x)) (made b s x).left
    unfolding made after answer_of
    step = go asked refl
      where
        go : (k : Option Refusal) → asked ≡ k
            → RunHolds (decode b) s₀ (h ++ (made b s x ∷ [])) (one_more (decode b).denominator r (made b s x))
            (after k (closed (decode b).denominator (taking (decode b) x.number s)) s)
        go None e =
            let t = passed e in
            step_accepted run room (a_number b o) (made b s x) (ap answer_of e) (leb-false _ _ t.below) (leb-false _ _ t.going) t.new (front e)
        go (Some y) e = step_refused run (made b s x) (ap answer_of e)

  -- after the draws h, and a list of draws more
  pub run_holds : {h : List Made} {r : Rounds} {s : CampaignRecord} → RunHolds (decode b) s₀ h r s → (l : List Asked)
      → RunHolds (decode b) s₀ (h ++ draws b s l) (further (decode b).denominator r (draws b s l)) (last_record s (draws b s l))
  unfolding draws further last_record
  run_holds {h = h} {r = r} {s = s} run [] = rw append-nil run
  run_holds {h = h} {r = r} {s = s} run (x ∷ l) = rw append_assoc at (run_holds {h = h ++ (made b s x ∷ [])} (step run x) l)

  pub run_each : {h : List Made} {r : Rounds} {s : CampaignRecord} → RunHolds (decode b) s₀ h r s → (l : List Asked)
      → (earlier : List Made) (t : Made) (later : List Made) → draws b s l ≡ earlier ++ (t ∷ later) → DrawClaim b (further (decode b).denominator r earlier) t
  unfolding draws further
  run_each {h = h} {r = r} {s = s} run [] [] t later e = absurd (no_draw e)
  run_each {h = h} {r = r} {s = s} run [] (u ∷ earlier) t later e = absurd (no_draw e)
  run_each {h = h} {r = r} {s = s} run (x ∷ l) [] t later e =
      let this : made b s x ≡ t = cc in
      subst (λ (k : Made). DrawClaim b r k) this (draw_claim run x)
  run_each {h = h} {r = r} {s = s} run (x ∷ l) (u ∷ earlier) t later e =
      let first : made b s x ≡ u = cc in
      let rest : draws b (made b s x).left l ≡ earlier ++ (t ∷ later) = cc in
      subst (λ (k : Made). DrawClaim b (further (decode b).denominator (one_more (decode b).denominator r k) earlier) t) first
      (run_each {h = h ++ (made b s x ∷ [])} (step run x) l earlier t later rest)

pub run_asked : (b : List ℕ) (s : CampaignRecord) (l : List Asked) → map (λ t. t.asked) (draws b s l) ≡ l
unfolding draws made
run_asked b s [] = refl
run_asked b s (x ∷ l) = ap (λ (r : List Asked). x ∷ r) (run_asked b (made b s x).left l)
