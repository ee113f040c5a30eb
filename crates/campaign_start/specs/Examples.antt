-- Literal cases of a campaign start (specification, "Campaign record" and "Refusals"); the plans' bytes are typed out. Assumes nothing.
use Rattle.std.specs.Prelude.{List, [], ◌∷◌, ◌++◌, ℕ, set, replicate}
use Rattle.refusals.specs.Answer.{answer_number}
use Rattle.form.specs.Examples.{square}
use Rattle.records.specs.Record.{CampaignRecord, record_of}
use Rattle.campaign_start.specs.Start.{started}

-- `square`, the third table of the examples, with a weight too large: it does not open, 6; and with a byte more: 5
abbrev pub heavy : List ℕ
heavy = set square 16 2

abbrev pub longer : List ℕ
longer = square ++ (0 ∷ [])

-- one cell D over D, below 256, with its one array
abbrev pub single : ℕ → List ℕ
single d =
    1 ∷ 0 ∷ 1 ∷ 1 ∷ 1 ∷ 0 ∷ 0 ∷ 0
    ∷ d ∷ 0 ∷ 0 ∷ 0 ∷ 24 ∷ 0 ∷ 0 ∷ 0
    ∷ d ∷ 0 ∷ 0 ∷ 0 ∷ 28 ∷ 0 ∷ 0 ∷ 0
    ∷ d ∷ 0 ∷ 0 ∷ 0
    ∷ 1 ∷ 0 ∷ []

-- one cell 2,049 over D 2,049 with its one array: the bits take 257 bytes
abbrev pub many_numbers : List ℕ
many_numbers = set (set (set (single 1) 9 8) 17 8) 25 8

-- the number of a start's answer, and what it leaves in the record
pub record Outcome : Type 0 where
  pub number : ℕ
  pub left : CampaignRecord

pub record Row : Type 0 where
  pub plan : List ℕ
  pub given : CampaignRecord
  pub outcome : Outcome

abbrev pub outcome_of : Row → Outcome
outcome_of r = let t = started r.plan r.given in record { number = answer_number t.answer; left = t.left }

-- a start that is accepted, and one that is refused, which changes nothing
abbrev pub does : List ℕ → CampaignRecord → CampaignRecord → Row
does b s left = record { plan = b; given = s; outcome = record { number = 0; left = left } }

abbrev pub refuses : ℕ → List ℕ → CampaignRecord → Row
refuses n b s = record { plan = b; given = s; outcome = record { number = n; left = s } }

-- a record for `square` before a start; and records that are too short for it, in bits or in tally
abbrev pub any : CampaignRecord
any = record_of 7 1001 (255 ∷ 6 ∷ []) (1 ∷ 2 ∷ 3 ∷ 4 ∷ 5 ∷ [])

abbrev pub no_bits : CampaignRecord
no_bits = record_of 7 1001 [] (1 ∷ 2 ∷ 3 ∷ 4 ∷ [])

abbrev pub three_tallied : CampaignRecord
three_tallied = record_of 7 1001 (1 ∷ []) (1 ∷ 2 ∷ 3 ∷ [])

abbrev pub starts : List Row
starts =
    -- bytes and numbers beyond those needed stay
    does square any (record_of 0 0 (0 ∷ 6 ∷ []) (0 ∷ 0 ∷ 0 ∷ 0 ∷ 5 ∷ []))
    -- the bits of D 7 and 8 take one byte, those of D 9 two
    ∷ does (single 7) (record_of 3 2 (255 ∷ []) (9 ∷ [])) (record_of 0 0 (0 ∷ []) (0 ∷ []))
    ∷ does (single 8) (record_of 3 2 (255 ∷ []) (9 ∷ [])) (record_of 0 0 (0 ∷ []) (0 ∷ []))
    ∷ does (single 9) (record_of 3 2 (255 ∷ 255 ∷ []) (9 ∷ [])) (record_of 0 0 (0 ∷ 0 ∷ []) (0 ∷ []))
    ∷ does (single 8) (record_of 3 2 (255 ∷ 255 ∷ []) (9 ∷ [])) (record_of 0 0 (0 ∷ 255 ∷ []) (0 ∷ []))
    -- buffers of 256 numbers, and the largest count and rounds
    ∷ does (single 8) (record_of 4294967295 65535 (replicate 256 255) (replicate 256 9)) (record_of 0 0 (0 ∷ replicate 255 255) (0 ∷ replicate 255 9))
    -- the bits of D 2,049 take 257 bytes
    ∷ does many_numbers (record_of 3 2 (replicate 258 255) (9 ∷ [])) (record_of 0 0 (replicate 257 0 ++ (255 ∷ [])) (0 ∷ []))
    -- 5, 6 and 7 alone
    ∷ refuses 5 longer any
    ∷ refuses 6 heavy any
    ∷ refuses 7 square no_bits
    ∷ refuses 7 square three_tallied
    ∷ refuses 7 (single 9) (record_of 3 2 (255 ∷ []) (9 ∷ []))
    ∷ refuses 7 many_numbers (record_of 3 2 (replicate 256 255) (9 ∷ []))
    ∷ refuses 7 many_numbers (record_of 3 2 (255 ∷ []) (9 ∷ []))
    -- 5 and 6, 5 and 7, 6 and 7
    ∷ refuses 5 (heavy ++ (0 ∷ [])) any
    ∷ refuses 5 longer no_bits
    ∷ refuses 6 heavy three_tallied
    ∷ []
