-- A record that fits is the record of a run (specification, "Campaign record" and "What every campaign is held to"): one that was stored and read again is as
-- good as one that never was. Assumes nothing.
use Rattle.std.specs.Prelude.{◌≡◌, Bool, true, cond, ℕ, ◌<◌, get_or, replicate, eqb, Ok}
use mathlib.Core.List.{List, [], ◌∷◌, ◌++◌, map, Memᴰ as Member}
use Rattle.base.specs.Lists.{join_to}
use Rattle.weighted_arrays.specs.Plan.{Plan, cell_count}
use Rattle.form.specs.Form.{decode}
use Rattle.bits.specs.Bits.{bit_of}
use Rattle.records.specs.Record.{CampaignRecord, room_for, fits}
use Rattle.campaign_start.specs.Start.{started}
use Rattle.campaign_draw.specs.Draw.{Asked, ask, Made}
use Rattle.demands.specs.Runs.{draws, last_record, rounds_of}
use Rattle.demands.specs.Claim.{RunClaim}

-- the numbers below n that pass a test, in order
abbrev pub numbers_that : ℕ → (ℕ → Bool) → List ℕ
numbers_that n test = join_to n (λ d. cond (test d) (d ∷ []) [])

-- the numbers that a record says were drawn: in each completed round all, in order, and then those whose bits are set, in order
unfoldable pub numbers_drawn : Plan → CampaignRecord → List ℕ
numbers_drawn p s =
    join_to s.rounds (λ _. numbers_that p.denominator (λ _. true)) ++ numbers_that p.denominator (λ d. eqb (bit_of s.bits d) 1)

-- a draw of each, with a buffer of just the needed length
abbrev pub draws_before : Plan → CampaignRecord → List Asked
draws_before p s = map (λ d. ask d (replicate (cell_count p) 0)) (numbers_drawn p s)

-- a record that is long enough and fits, whose bits are in bytes, as those of every lent buffer are
pub record Resumable (p : Plan) (s : CampaignRecord) : Type 0 where
  pub room : room_for p s ≡ true
  pub fits : fits p s ≡ true
  pub bytes : (i : ℕ) → get_or s.bits i 0 < 256

-- such a record s; `start`, what a start on its buffers leaves; and `run`, the draws before, made from there
pub record Resumed (b : List ℕ) (s start : CampaignRecord) (run : List Made) : Type 0 where
  -- each was accepted, and they leave the record, all of it
  pub each_done : (t : Made) → Member t run → t.answer ≡ Ok tt
  pub left : last_record start run ≡ s
  -- a list of draws from the record on goes on with this run, and both together are held to the claim
  pub goes_on_is : (l : List Asked) → draws b start (draws_before (decode b) s ++ l) ≡ run ++ draws b s l
  pub held : (l : List Asked)
      → let all = run ++ draws b s l in
      RunClaim b s (draws_before (decode b) s ++ l) (decode b) all (rounds_of (decode b).denominator all) (last_record s (draws b s l))

-- so of every such record, on the bytes b
abbrev pub Resumes : List ℕ → Type 0
Resumes b =
    (s : CampaignRecord) → Resumable (decode b) s
    → let start = (started b s).left in
    Resumed b s start (draws b start (draws_before (decode b) s))
