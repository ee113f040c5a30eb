-- A campaign draw: when it is refused, what it answers and what it leaves (specification, "Campaign record" and "Refusals"). The code is equated with this, and
-- a run is made of draws after a start. Assumes nothing.
use Rattle.std.specs.Prelude.{◌≡◌, cond, not, List, [], ◌∷◌, ◌++◌, ℕ, ◌+◌, ◌/◌, ◌%◌, ◌^◌, length, get_or, set, replicate, leb, ltb, eqb, Option, Result, ⊤}
use Rattle.base.specs.Lists.{tabulate}
use Rattle.base.specs.Buffers.{written}
use Rattle.refusals.specs.declared.Refusal.{Refusal}
use Rattle.refusals.specs.declared.Refusal.TheVariants.{Buffer, Number, Record, Taken, Rounds}
use Rattle.refusals.specs.Due.{Test, refuse, due, answer_of, after}
use Rattle.weighted_arrays.specs.Plan.{Plan, cell_count, array_for}
use Rattle.form.specs.Form.{decode}
use Rattle.drawing.specs.Draw.{drawn_array}
use Rattle.campaign_start.specs.Start.{start_tests}
use Rattle.records.specs.Record.{CampaignRecord, record_of, max_rounds, fits}
use Rattle.bits.specs.Bits.{bit_of, bit_bytes}

-- the refusals of the call "campaign draw", with a buffer of `room` counts for the array: those of a start; 7, this buffer is too short;
-- 8, the number is not below D; 9, the record does not fit the plan; 13, 1,000 rounds are done; 10, the number is taken
abbrev pub campaign_tests : List ℕ → ℕ → CampaignRecord → ℕ → List Test
campaign_tests b d s room =
    let p = decode b in
    start_tests b s
    ++ (refuse Buffer (ltb room (cell_count p))
    ∷ refuse Number (leb p.denominator d)
    ∷ refuse Record (not (fits p s))
    ∷ refuse Rounds (leb max_rounds s.rounds)
    ∷ refuse Taken (not (eqb (bit_of s.bits d) 0))
    ∷ [])

unfoldable pub campaign_refusal : List ℕ → ℕ → CampaignRecord → ℕ → Option Refusal
campaign_refusal b d s room = due (campaign_tests b d s room)

-- an accepted draw of number d: one more is taken, its bit is set, and its array is added to the tally
unfoldable pub taking : Plan → ℕ → CampaignRecord → CampaignRecord
taking p d s = record {
  taken = s.taken + 1;
  rounds = s.rounds;
  bits = set s.bits (d / 8) (get_or s.bits (d / 8) 0 + 2 ^ (d % 8));
  tally = written (tabulate (cell_count p) (λ i. get_or s.tally i 0 + get_or (array_for p.arrays d) i 0)) s.tally;
}

-- and where it took the last free number, the round is completed: a round is added, all numbers are free and the count is 0
unfoldable pub closed : ℕ → CampaignRecord → CampaignRecord
closed denominator s = cond (eqb s.taken denominator)
    (record_of 0 (s.rounds + 1) (written (replicate (bit_bytes denominator) 0) s.bits) s.tally)
    s

-- a draw that is asked for: a number, and a buffer for the array
pub record Asked : Type 0 where
  pub number : ℕ
  pub buffer : List ℕ

abbrev pub ask : ℕ → List ℕ → Asked
ask number buffer = record { number = number; buffer = buffer }

-- a draw that was made: what was asked for, the record before it, its answer, and the record and the buffer as it left them
pub record Made : Type 0 where
  pub asked : Asked
  pub given : CampaignRecord
  pub answer : Result ⊤ Refusal
  pub left : CampaignRecord
  pub result : List ℕ

unfoldable pub made : List ℕ → CampaignRecord → Asked → Made
made b s x =
    let o = campaign_refusal b x.number s (length x.buffer) in
    record {
      asked = x;
      given = s;
      answer = answer_of o;
      left = after o (closed (decode b).denominator (taking (decode b) x.number s)) s;
      result = after o (written (drawn_array b x.number) x.buffer) x.buffer;
    }

-- what the code is held to: its answer, as it stands or as its number, and what it leaves are the defined ones
pub record Draws {A : Type 0} (told : Result ⊤ Refusal → A) (t : Made) (r : A) (s : CampaignRecord) (counts : List ℕ) : Type 0 where
  pub answer : r ≡ told t.answer
  pub left : s ≡ t.left
  pub result : counts ≡ t.result
