-- Literal cases of a campaign draw (specification, "Campaign record" and "Refusals"); the plans' bytes are typed out. Assumes nothing.
use Rattle.std.specs.Prelude.{List, [], ◌∷◌, ◌++◌, ℕ, set, replicate}
use Rattle.refusals.specs.Answer.{answer_number}
use Rattle.form.specs.Examples.{square}
use Rattle.records.specs.Record.{CampaignRecord, record_of}
use Rattle.campaign_start.specs.Examples.{heavy, longer, single, many_numbers}
use Rattle.campaign_draw.specs.Draw.{Asked, ask, made}

-- the number of a draw's answer, and what it leaves in the record and in the buffer for the array
pub record Outcome : Type 0 where
  pub number : ℕ
  pub left : CampaignRecord
  pub result : List ℕ

pub record Row : Type 0 where
  pub plan : List ℕ
  pub given : CampaignRecord
  pub asked : Asked
  pub outcome : Outcome

abbrev pub outcome_of : Row → Outcome
outcome_of r = let t = made r.plan r.given r.asked in record { number = answer_number t.answer; left = t.left; result = t.result }

-- a draw that is accepted, and one that is refused, which changes nothing
abbrev pub does : List ℕ → CampaignRecord → Asked → CampaignRecord → List ℕ → Row
does b s x left result = record { plan = b; given = s; asked = x; outcome = record { number = 0; left = left; result = result } }

abbrev pub refuses : ℕ → List ℕ → CampaignRecord → Asked → Row
refuses n b s x = record { plan = b; given = s; asked = x; outcome = record { number = n; left = s; result = x.buffer } }

-- records of the square campaign: after a start, after draw 0 and after both draws, which complete the round
abbrev pub fresh : CampaignRecord
fresh = record_of 0 0 (0 ∷ []) (0 ∷ 0 ∷ 0 ∷ 0 ∷ [])

abbrev pub one : CampaignRecord
one = record_of 1 0 (1 ∷ []) (0 ∷ 1 ∷ 1 ∷ 0 ∷ [])

abbrev pub both : CampaignRecord
both = record_of 0 1 (0 ∷ []) (1 ∷ 1 ∷ 1 ∷ 1 ∷ [])

-- after 999 rounds, after draw 0 of the thousandth, and after the thousandth
abbrev pub late : CampaignRecord
late = record_of 0 999 (0 ∷ []) (999 ∷ 999 ∷ 999 ∷ 999 ∷ [])

abbrev pub last : CampaignRecord
last = record_of 1 999 (1 ∷ []) (999 ∷ 1000 ∷ 1000 ∷ 999 ∷ [])

abbrev pub over : CampaignRecord
over = record_of 0 1000 (0 ∷ []) (1000 ∷ 1000 ∷ 1000 ∷ 1000 ∷ [])

-- a record of it that does not fit
abbrev pub unfit : CampaignRecord
unfit = record_of 2 0 (1 ∷ []) (0 ∷ 1 ∷ 1 ∷ 0 ∷ [])

-- buffers for its array: a count to spare, just enough, a count too few
abbrev pub five : List ℕ
five = 8 ∷ 8 ∷ 8 ∷ 8 ∷ 8 ∷ []

abbrev pub four : List ℕ
four = 8 ∷ 8 ∷ 8 ∷ 8 ∷ []

abbrev pub three : List ℕ
three = 8 ∷ 8 ∷ 8 ∷ []

-- one cell 257 over D 257 with its one array
abbrev pub some_numbers : List ℕ
some_numbers = set (set (set (single 1) 9 1) 17 1) 25 1

abbrev pub draws : List Row
draws =
    does square fresh (ask 0 five) one (0 ∷ 1 ∷ 1 ∷ 0 ∷ 8 ∷ [])
    -- the last free number completes the round; the next round begins, and in it 0 is free again
    ∷ does square one (ask 1 four) both (1 ∷ 0 ∷ 0 ∷ 1 ∷ [])
    ∷ does square both (ask 0 four) (record_of 1 1 (1 ∷ []) (1 ∷ 2 ∷ 2 ∷ 1 ∷ [])) (0 ∷ 1 ∷ 1 ∷ 0 ∷ [])
    -- over D 1 each draw of 0 is a round
    ∷ does (single 1) (record_of 0 0 (0 ∷ []) (0 ∷ [])) (ask 0 (8 ∷ [])) (record_of 0 1 (0 ∷ []) (1 ∷ [])) (1 ∷ [])
    ∷ does (single 1) (record_of 0 1 (0 ∷ []) (1 ∷ [])) (ask 0 (8 ∷ [])) (record_of 0 2 (0 ∷ []) (2 ∷ [])) (1 ∷ [])
    -- the thousandth round
    ∷ does square late (ask 0 four) last (0 ∷ 1 ∷ 1 ∷ 0 ∷ [])
    ∷ does square last (ask 1 four) over (1 ∷ 0 ∷ 0 ∷ 1 ∷ [])
    -- the 256th round; of 257 numbers the first, the 256th and the last, which completes the round; number 2,048 in byte 256
    ∷ does (single 1) (record_of 0 255 (0 ∷ []) (255 ∷ [])) (ask 0 (8 ∷ [])) (record_of 0 256 (0 ∷ []) (256 ∷ [])) (1 ∷ [])
    ∷ does some_numbers (record_of 0 0 (replicate 33 0) (0 ∷ [])) (ask 0 (8 ∷ [])) (record_of 1 0 (1 ∷ replicate 32 0) (1 ∷ [])) (1 ∷ [])
    ∷ does some_numbers (record_of 255 0 (replicate 31 255 ++ (127 ∷ 0 ∷ [])) (255 ∷ [])) (ask 255 (8 ∷ []))
    (record_of 256 0 (replicate 32 255 ++ (0 ∷ [])) (256 ∷ [])) (1 ∷ [])
    ∷ does some_numbers (record_of 256 0 (replicate 32 255 ++ (0 ∷ [])) (256 ∷ [])) (ask 256 (8 ∷ [])) (record_of 0 1 (replicate 33 0) (257 ∷ [])) (1 ∷ [])
    ∷ does many_numbers (record_of 0 0 (replicate 257 0) (0 ∷ [])) (ask 2048 (8 ∷ [])) (record_of 1 0 (replicate 256 0 ++ (1 ∷ [])) (1 ∷ [])) (1 ∷ [])
    -- bytes and numbers beyond those needed stay, and are no part of the record's fit
    ∷ does square (record_of 0 0 (0 ∷ 6 ∷ []) (0 ∷ 0 ∷ 0 ∷ 0 ∷ 5 ∷ [])) (ask 1 four) (record_of 1 0 (2 ∷ 6 ∷ []) (1 ∷ 0 ∷ 0 ∷ 1 ∷ 5 ∷ [])) (1 ∷ 0 ∷ 0 ∷ 1 ∷ [])
    ∷ does square (record_of 1 0 (2 ∷ 6 ∷ []) (1 ∷ 0 ∷ 0 ∷ 1 ∷ 5 ∷ [])) (ask 0 four) (record_of 0 1 (0 ∷ 6 ∷ []) (1 ∷ 1 ∷ 1 ∷ 1 ∷ 5 ∷ [])) (0 ∷ 1 ∷ 1 ∷ 0 ∷ [])
    -- buffers of 256 numbers
    ∷ does square (record_of 0 0 (0 ∷ replicate 255 6) (0 ∷ 0 ∷ 0 ∷ 0 ∷ replicate 252 5)) (ask 0 (replicate 256 8))
    (record_of 1 0 (1 ∷ replicate 255 6) (0 ∷ 1 ∷ 1 ∷ 0 ∷ replicate 252 5)) (0 ∷ 1 ∷ 1 ∷ 0 ∷ replicate 252 8)
    -- number d in bit d mod 8, lowest first, of byte d / 8; a round frees all of them
    ∷ does (single 7) (record_of 1 0 (1 ∷ []) (1 ∷ [])) (ask 6 (8 ∷ [])) (record_of 2 0 (65 ∷ []) (2 ∷ [])) (1 ∷ [])
    ∷ does (single 8) (record_of 1 0 (1 ∷ []) (1 ∷ [])) (ask 7 (8 ∷ [])) (record_of 2 0 (129 ∷ []) (2 ∷ [])) (1 ∷ [])
    ∷ does (single 9) (record_of 1 0 (1 ∷ 0 ∷ []) (1 ∷ [])) (ask 8 (8 ∷ [])) (record_of 2 0 (1 ∷ 1 ∷ []) (2 ∷ [])) (1 ∷ [])
    ∷ does (single 9) (record_of 1 0 (8 ∷ 0 ∷ []) (1 ∷ [])) (ask 1 (8 ∷ [])) (record_of 2 0 (10 ∷ 0 ∷ []) (2 ∷ [])) (1 ∷ [])
    ∷ does (single 9) (record_of 8 4 (255 ∷ 0 ∷ []) (44 ∷ [])) (ask 8 (8 ∷ [])) (record_of 0 5 (0 ∷ 0 ∷ []) (45 ∷ [])) (1 ∷ [])
    -- 5, 6, 7 (bits, tally, array), 8, 13 and 10 alone
    ∷ refuses 5 longer fresh (ask 0 four)
    ∷ refuses 6 heavy fresh (ask 0 four)
    ∷ refuses 7 square (record_of 0 0 [] (0 ∷ 0 ∷ 0 ∷ 0 ∷ [])) (ask 0 four)
    ∷ refuses 7 square (record_of 0 0 (0 ∷ []) (0 ∷ 0 ∷ 0 ∷ [])) (ask 0 four)
    ∷ refuses 7 (single 9) (record_of 0 0 (0 ∷ []) (0 ∷ [])) (ask 0 (8 ∷ []))
    ∷ refuses 7 square fresh (ask 0 three)
    ∷ refuses 8 square one (ask 2 four)
    ∷ refuses 13 square over (ask 0 four)
    ∷ refuses 10 square one (ask 0 four)
    ∷ refuses 10 square last (ask 0 four)
    -- 7: 256 bytes where 257 are needed, and one; 8: numbers of which only the low part is below D
    ∷ refuses 7 many_numbers (record_of 0 0 (replicate 256 0) (0 ∷ [])) (ask 0 (8 ∷ []))
    ∷ refuses 7 many_numbers (record_of 0 0 (0 ∷ []) (0 ∷ [])) (ask 0 (8 ∷ []))
    ∷ refuses 8 square fresh (ask 256 four)
    ∷ refuses 8 square fresh (ask 65536 four)
    ∷ refuses 8 square fresh (ask 16777216 four)
    ∷ refuses 8 square fresh (ask 2147483648 four)
    ∷ refuses 8 square fresh (ask 4294967295 four)
    -- 9: the count, the tally, a spare bit
    ∷ refuses 9 square unfit (ask 1 four)
    ∷ refuses 9 square (record_of 1 0 (1 ∷ []) (0 ∷ 1 ∷ 1 ∷ 1 ∷ [])) (ask 1 four)
    ∷ refuses 9 square (record_of 1 0 (5 ∷ []) (0 ∷ 1 ∷ 1 ∷ 0 ∷ [])) (ask 1 four)
    ∷ refuses 9 (single 7) (record_of 0 0 (128 ∷ []) (0 ∷ [])) (ask 0 (8 ∷ []))
    ∷ refuses 9 (single 9) (record_of 0 0 (0 ∷ 2 ∷ []) (0 ∷ [])) (ask 0 (8 ∷ []))
    -- 9: a count, rounds and a tally of which only the low part is right
    ∷ refuses 9 square (record_of 257 0 (1 ∷ []) (0 ∷ 1 ∷ 1 ∷ 0 ∷ [])) (ask 1 four)
    ∷ refuses 9 square (record_of 65537 0 (1 ∷ []) (0 ∷ 1 ∷ 1 ∷ 0 ∷ [])) (ask 1 four)
    ∷ refuses 9 square (record_of 2147483649 0 (1 ∷ []) (0 ∷ 1 ∷ 1 ∷ 0 ∷ [])) (ask 1 four)
    ∷ refuses 9 square (record_of 1 256 (1 ∷ []) (0 ∷ 1 ∷ 1 ∷ 0 ∷ [])) (ask 1 four)
    ∷ refuses 9 square (record_of 1 32768 (1 ∷ []) (0 ∷ 1 ∷ 1 ∷ 0 ∷ [])) (ask 1 four)
    ∷ refuses 9 square (record_of 1 0 (1 ∷ []) (256 ∷ 1 ∷ 1 ∷ 0 ∷ [])) (ask 1 four)
    ∷ refuses 9 square (record_of 1 0 (1 ∷ []) (0 ∷ 65537 ∷ 1 ∷ 0 ∷ [])) (ask 1 four)
    ∷ refuses 9 square (record_of 1 0 (1 ∷ []) (0 ∷ 1 ∷ 4294967297 ∷ 0 ∷ [])) (ask 1 four)
    ∷ refuses 9 square (record_of 1 0 (1 ∷ []) (0 ∷ 1 ∷ 1 ∷ 4294967296 ∷ [])) (ask 1 four)
    -- 9: more than 1,000 rounds, no number free, a number taken after 1,000 rounds, a tally without the rounds' part or with a round too many
    ∷ refuses 9 square (record_of 0 1001 (0 ∷ []) (1001 ∷ 1001 ∷ 1001 ∷ 1001 ∷ [])) (ask 0 four)
    ∷ refuses 9 square (record_of 2 0 (3 ∷ []) (1 ∷ 1 ∷ 1 ∷ 1 ∷ [])) (ask 0 four)
    ∷ refuses 9 square (record_of 1 1000 (1 ∷ []) (1000 ∷ 1001 ∷ 1001 ∷ 1000 ∷ [])) (ask 1 four)
    ∷ refuses 9 square (record_of 1 1 (1 ∷ []) (0 ∷ 1 ∷ 1 ∷ 0 ∷ [])) (ask 1 four)
    ∷ refuses 9 square (record_of 0 0 (0 ∷ []) (1 ∷ 1 ∷ 1 ∷ 1 ∷ [])) (ask 1 four)
    -- 5 with 6, 7, 8, 9, 13 and 10
    ∷ refuses 5 (heavy ++ (0 ∷ [])) fresh (ask 0 four)
    ∷ refuses 5 longer fresh (ask 0 three)
    ∷ refuses 5 longer fresh (ask 2 four)
    ∷ refuses 5 longer unfit (ask 1 four)
    ∷ refuses 5 longer over (ask 0 four)
    ∷ refuses 5 longer one (ask 0 four)
    -- 6 with 7, 8, 9, 13 and 10
    ∷ refuses 6 heavy fresh (ask 0 three)
    ∷ refuses 6 heavy fresh (ask 3 four)
    ∷ refuses 6 heavy unfit (ask 1 four)
    ∷ refuses 6 heavy over (ask 0 four)
    ∷ refuses 6 heavy one (ask 0 four)
    -- 7 with 8, 9, 13 and 10
    ∷ refuses 7 square fresh (ask 2 three)
    ∷ refuses 7 square unfit (ask 1 three)
    ∷ refuses 7 square over (ask 0 three)
    ∷ refuses 7 square one (ask 0 three)
    -- 8 with 9 and 13, 9 with 13 and 10, and all three of these
    ∷ refuses 8 square unfit (ask 2 four)
    ∷ refuses 8 square over (ask 2 four)
    ∷ refuses 9 square (record_of 0 1000 (0 ∷ []) (0 ∷ 0 ∷ 0 ∷ 0 ∷ [])) (ask 0 four)
    ∷ refuses 9 square unfit (ask 0 four)
    ∷ refuses 9 square (record_of 1 1000 (1 ∷ []) (1000 ∷ 1001 ∷ 1001 ∷ 1000 ∷ [])) (ask 0 four)
    ∷ []
