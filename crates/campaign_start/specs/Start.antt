-- A campaign start: when it is refused, what it answers and what it leaves (specification, "Campaign record" and "Refusals"). The code is equated with this,
-- and a run begins with it. Assumes nothing.
use Rattle.std.specs.Prelude.{◌≡◌, not, List, [], ◌∷◌, ◌++◌, ℕ, replicate, Option, Result, ⊤}
use Rattle.base.specs.Buffers.{written}
use Rattle.refusals.specs.declared.Refusal.{Refusal}
use Rattle.refusals.specs.declared.Refusal.TheVariants.{Buffer}
use Rattle.refusals.specs.Due.{Test, refuse, due, answer_of, after}
use Rattle.weighted_arrays.specs.Plan.{Plan, cell_count}
use Rattle.form.specs.Form.{decode}
use Rattle.opening.specs.Open.{open_tests}
use Rattle.bits.specs.Bits.{bit_bytes}
use Rattle.records.specs.Record.{CampaignRecord, room_for}

-- the refusals of the call "campaign start": those of opening; 7, a buffer of the record is too short
abbrev pub start_tests : List ℕ → CampaignRecord → List Test
start_tests b s = open_tests b ++ (refuse Buffer (not (room_for (decode b) s)) ∷ [])

unfoldable pub start_refusal : List ℕ → CampaignRecord → Option Refusal
start_refusal b s = due (start_tests b s)

-- a start sets the record to zero, and leaves what its buffers have beyond it
unfoldable pub cleared : Plan → CampaignRecord → CampaignRecord
cleared p s = record {
  taken = 0;
  rounds = 0;
  bits = written (replicate (bit_bytes p.denominator) 0) s.bits;
  tally = written (replicate (cell_count p) 0) s.tally;
}

-- a start that was made: its answer, and the record as it left it
pub record Started : Type 0 where
  pub answer : Result ⊤ Refusal
  pub left : CampaignRecord

unfoldable pub started : List ℕ → CampaignRecord → Started
started b s =
    let o = start_refusal b s in
    record { answer = answer_of o; left = after o (cleared (decode b) s) s }

-- what the code is held to: its answer, as it stands or as its number, and what it leaves are the defined ones
pub record Starts {A : Type 0} (told : Result ⊤ Refusal → A) (t : Started) (r : A) (s : CampaignRecord) : Type 0 where
  pub answer : r ≡ told t.answer
  pub left : s ≡ t.left
