-- What every run of a campaign is held to (specification, "What every campaign is held to"). `started` and `made` are the definitions that the code of a start and of a
-- campaign draw is equated with. Assumes nothing.
use Rattle.std.specs.Prelude.{◌≡◌, true, false, cond, ℕ, ◌+◌, ◌-◌, ◌*◌, ◌<◌, ◌≤◌, length, get_or, drop, leb, ltb, None, Ok, Err}
use mathlib.Core.List.{List, [], ◌∷◌, ◌++◌, map, Memᴰ as Member}
use Rattle.base.specs.Buffers.{written}
use Rattle.table.specs.Table.{total}
use Rattle.table.specs.Whole.{down, up}
use Rattle.refusals.specs.Answer.{answer_number}
use Rattle.refusals.specs.declared.Refusal.{Refusal}
use Rattle.weighted_arrays.specs.Plan.{Plan, cell_count}
use Rattle.form.specs.Form.{decode}
use Rattle.opening.specs.Open.{held_to, Opens}
use Rattle.drawing.specs.Draw.{draw_refusal, drawn_array}
use Rattle.records.specs.Record.{CampaignRecord, max_rounds, fits, room_for}
use Rattle.bits.specs.Bits.{bit_of, bit_bytes}
use Rattle.campaign_start.specs.Start.{started}
use Rattle.campaign_draw.specs.Draw.{Asked, Made}
use Rattle.demands.specs.Runs.{draws, last_record, used, accepted, drawn, unused, Rounds, rounds_of, in_turn}

-- what a draw returns after so many completed rounds, with the draws before it in its round: 7 where its buffer is too short, else 8 where its number is not
-- below D, else 13 where 1,000 rounds are completed, else 10 where the number is used in this round, and else 0
abbrev pub number_due : Plan → ℕ → List Made → Asked → ℕ
number_due p rounds earlier x =
    cond (ltb (length x.buffer) (cell_count p)) 7
    (cond (leb p.denominator x.number) 8
    (cond (leb max_rounds rounds) 13
    (cond (used earlier x.number) 10 0)))

-- what holds of one draw of the list, with the draws before it
pub record DrawClaim (b : List ℕ) (earlier : Rounds) (t : Made) : Type 0 where
  -- who is accepted
  pub number : answer_number t.answer ≡ number_due (decode b) (length earlier.completed) earlier.current t.asked
  -- an accepted draw wrote the array that belongs to its number, which is what the plain draw gives, and left its buffer's rest
  pub wrote : t.answer ≡ Ok tt
      → (draw_refusal b t.asked.number (length t.asked.buffer) ≡ None) × (t.result ≡ written (drawn_array b t.asked.number) t.asked.buffer)
  -- a refused draw left buffer and record as they were
  pub kept : (x : Refusal) → t.answer ≡ Err x → (t.result ≡ t.asked.buffer) × (t.left ≡ t.given)

-- what holds inside a round, at any time of it: used, m and drawn are counted in its own draws
pub record RoundClaim (p : Plan) (round : List Made) : Type 0 where
  -- drawn plus what the unused numbers hold is the planned sum: for any places, so for every entry
  pub balance : (s : List ℕ) → drawn p round s + unused p round s ≡ total p.cells s
  -- with m accepted, drawn lies between m times the expected count rounded down and m times that rounded up, for each entry that a plan is held to: every cell,
  -- row and column, and the grand total
  pub bounds : (s : List ℕ) → Member s (held_to p.rows p.columns)
      → (accepted round * down p.denominator (total p.cells s) ≤ drawn p round s)
      × (drawn p round s ≤ accepted round * up p.denominator (total p.cells s))
  -- m is at most D, and what the D − m unused numbers hold lies between D − m times the one and D − m times the other
  pub at_most : accepted round ≤ p.denominator
  pub reserve : (s : List ℕ) → Member s (held_to p.rows p.columns)
      → ((p.denominator - accepted round) * down p.denominator (total p.cells s) ≤ unused p round s)
      × (unused p round s ≤ (p.denominator - accepted round) * up p.denominator (total p.cells s))

-- what holds of a completed round: the same, all its numbers are used, and it has drawn exactly the planned sums
pub record CompletedClaim (p : Plan) (round : List Made) : Type 0 where
  pub inside : RoundClaim p round
  pub all_used : (d : ℕ) → d < p.denominator → used round d ≡ true
  pub exact : (s : List ℕ) → drawn p round s ≡ total p.cells s

-- the record `end` after the list: the rounds completed so far; its count is this round's m, its bits tell the numbers used in this round, its spare bits are
-- 0; its tally is what all rounds drew; and what lies beyond is as in the record s₀ before the start
pub record RecordClaim (p : Plan) (s₀ : CampaignRecord) (run : List Made) (r : Rounds) (end : CampaignRecord) : Type 0 where
  pub rounds : end.rounds ≡ length r.completed
  pub count : end.taken ≡ accepted r.current
  pub bits : (d : ℕ) → d < p.denominator → bit_of end.bits d ≡ cond (used r.current d) 1 0
  pub spare : (d : ℕ) → p.denominator ≤ d → d < 8 * bit_bytes p.denominator → bit_of end.bits d ≡ 0
  pub tally : (i : ℕ) → i < cell_count p → get_or end.tally i 0 ≡ drawn p run (i ∷ [])
  pub bits_beyond : drop (bit_bytes p.denominator) end.bits ≡ drop (bit_bytes p.denominator) s₀.bits
  pub tally_beyond : drop (cell_count p) end.tally ≡ drop (cell_count p) s₀.tally
  pub bits_length : length end.bits ≡ length s₀.bits
  pub tally_length : length end.tally ≡ length s₀.tally

-- what holds of a start on bytes b that open, with a record s₀, and then the list l of draws: `run` as they were made, r the same round by round
pub record RunClaim (b : List ℕ) (s₀ : CampaignRecord) (l : List Asked) (p : Plan) (run : List Made) (r : Rounds) (end : CampaignRecord) : Type 0 where
  -- the start is accepted, whatever the record held
  pub start : (started b s₀).answer ≡ Ok tt
  -- the draws made are those asked for, each as claimed
  pub asked : map (λ t. t.asked) run ≡ l
  pub each : (earlier : List Made) (t : Made) (later : List Made) → run ≡ earlier ++ (t ∷ later) → DrawClaim b (rounds_of p.denominator earlier) t
  -- the rounds in turn are the list: each draw belongs to one round
  pub in_turn_is : in_turn r.completed r.current ≡ run
  -- inside the round that goes on, in which a number is left; and in each completed round, of which there are at most 1,000
  pub going_on : RoundClaim p r.current
  pub number_left : accepted r.current < p.denominator
  pub completed : (c : List Made) → Member c r.completed → CompletedClaim p c
  pub at_most : length r.completed ≤ max_rounds
  -- after the thousandth all numbers count as unused, and this round's m and drawn are 0 (that a draw which 7 and 8 let through then gets 13 is in `each`)
  pub over : length r.completed ≡ max_rounds
      → ((d : ℕ) → d < p.denominator → used r.current d ≡ false) × (accepted r.current ≡ 0) × ((s : List ℕ) → drawn p r.current s ≡ 0)
  -- over all rounds, what was drawn plus what this round's unused numbers hold is (rounds + 1) times the planned sum
  pub over_all : (s : List ℕ) → drawn p run s + unused p r.current s ≡ (length r.completed + 1) * total p.cells s
  pub after_list : RecordClaim p s₀ run r end
  -- and the record fits the plan, so that a stored record can be gone on with (`Resumed`)
  pub still_fits : fits p end ≡ true

-- what every list of draws on the bytes b is held to, after a start with any record long enough
abbrev pub Held : List ℕ → Type 0
Held b =
    (s₀ : CampaignRecord) (l : List Asked) → room_for (decode b) s₀ ≡ true
    → let s = (started b s₀).left in
    let run = draws b s l in
    RunClaim b s₀ l (decode b) run (rounds_of (decode b).denominator run) (last_record s run)

-- one claim about the whole list, for any bytes that open
abbrev pub Claim : Type 0
Claim = (b : List ℕ) → Opens b → Held b
