-- Literal cases of the record: whether it fits (specification, "Campaign record"). Assumes nothing.
use Rattle.std.specs.Prelude.{Bool, true, false, List, [], ◌∷◌, ◌++◌, ℕ, replicate}
use Rattle.weighted_arrays.specs.Plan.{Plan}
use Rattle.form.specs.Examples.{with_weight}
use Rattle.records.specs.Record.{CampaignRecord, record_of}

-- the third table of the examples: draw 0 writes 0 1 1 0, and draw 1 writes 1 0 0 1
abbrev pub halves : Plan
halves = record {
  rows = 2;
  columns = 2;
  denominator = 2;
  cells = 1 ∷ 1 ∷ 1 ∷ 1 ∷ [];
  arrays = with_weight 1 (0 ∷ 1 ∷ 1 ∷ 0 ∷ []) ∷ with_weight 1 (1 ∷ 0 ∷ 0 ∷ 1 ∷ []) ∷ [];
}

-- one cell D over D: every draw writes 1
abbrev pub ones : ℕ → Plan
ones d = record { rows = 1; columns = 1; denominator = d; cells = d ∷ []; arrays = with_weight d (1 ∷ []) ∷ [] }

-- one cell of 1000·D over D 4,300: every draw writes 1000
abbrev pub thousands : Plan
thousands = record { rows = 1; columns = 1; denominator = 4300; cells = 4300000 ∷ []; arrays = with_weight 4300 (1000 ∷ []) ∷ [] }

-- a plan, a record, and whether it fits
pub record Row : Type 0 where
  pub plan : Plan
  pub given : CampaignRecord
  pub fits : Bool

abbrev pub good : Plan → CampaignRecord → Row
good p s = record { plan = p; given = s; fits = true }

abbrev pub bad : Plan → CampaignRecord → Row
bad p s = record { plan = p; given = s; fits = false }

abbrev pub rows : List Row
rows =
    -- no number taken, one of the two, in the first round, in the third, and after the last
    good halves (record_of 0 0 (0 ∷ []) (0 ∷ 0 ∷ 0 ∷ 0 ∷ []))
    ∷ good halves (record_of 1 0 (1 ∷ []) (0 ∷ 1 ∷ 1 ∷ 0 ∷ []))
    ∷ good halves (record_of 1 0 (2 ∷ []) (1 ∷ 0 ∷ 0 ∷ 1 ∷ []))
    ∷ good halves (record_of 1 2 (2 ∷ []) (3 ∷ 2 ∷ 2 ∷ 3 ∷ []))
    ∷ good halves (record_of 1 999 (1 ∷ []) (999 ∷ 1000 ∷ 1000 ∷ 999 ∷ []))
    ∷ good halves (record_of 0 1000 (0 ∷ []) (1000 ∷ 1000 ∷ 1000 ∷ 1000 ∷ []))
    -- what lies beyond is no part of it
    ∷ good halves (record_of 1 0 (1 ∷ 255 ∷ []) (0 ∷ 1 ∷ 1 ∷ 0 ∷ 9 ∷ []))
    -- number d in bit d mod 8, lowest first, of byte d / 8
    ∷ good (ones 7) (record_of 1 0 (64 ∷ []) (1 ∷ []))
    ∷ good (ones 8) (record_of 1 0 (128 ∷ []) (1 ∷ []))
    ∷ good (ones 9) (record_of 1 0 (0 ∷ 1 ∷ []) (1 ∷ []))
    ∷ good (ones 9) (record_of 8 0 (255 ∷ 0 ∷ []) (8 ∷ []))
    -- 256 rounds, 256 numbers taken, and number 2,048 in byte 256
    ∷ good halves (record_of 0 256 (0 ∷ []) (256 ∷ 256 ∷ 256 ∷ 256 ∷ []))
    ∷ good (ones 257) (record_of 256 0 (replicate 32 255 ++ (0 ∷ [])) (256 ∷ []))
    ∷ good (ones 2049) (record_of 1 0 (replicate 256 0 ++ (1 ∷ [])) (1 ∷ []))
    ∷ bad (ones 2049) (record_of 1 0 (replicate 256 0 ++ (2 ∷ [])) (1 ∷ []))
    -- a tally above 2^32, and its low 32 bits alone
    ∷ good thousands (record_of 0 999 (replicate 538 0) (4295700000 ∷ []))
    ∷ bad thousands (record_of 0 999 (replicate 538 0) (732704 ∷ []))
    -- a spare bit
    ∷ bad halves (record_of 0 0 (4 ∷ []) (0 ∷ 0 ∷ 0 ∷ 0 ∷ []))
    ∷ bad (ones 7) (record_of 0 0 (128 ∷ []) (0 ∷ []))
    ∷ bad (ones 9) (record_of 1 0 (0 ∷ 2 ∷ []) (1 ∷ []))
    -- the count one more and one less
    ∷ bad (ones 9) (record_of 3 0 (3 ∷ 0 ∷ []) (2 ∷ []))
    ∷ bad (ones 9) (record_of 1 0 (3 ∷ 0 ∷ []) (2 ∷ []))
    -- a count of which only the low part is right
    ∷ bad (ones 300) (record_of 258 0 (3 ∷ replicate 37 0) (2 ∷ []))
    ∷ bad (ones 9) (record_of 258 0 (3 ∷ 0 ∷ []) (2 ∷ []))
    ∷ bad (ones 9) (record_of 65538 0 (3 ∷ 0 ∷ []) (2 ∷ []))
    ∷ bad (ones 9) (record_of 16777218 0 (3 ∷ 0 ∷ []) (2 ∷ []))
    ∷ bad (ones 9) (record_of 2147483650 0 (3 ∷ 0 ∷ []) (2 ∷ []))
    -- rounds of which only the low part is right
    ∷ bad halves (record_of 1 256 (1 ∷ []) (0 ∷ 1 ∷ 1 ∷ 0 ∷ []))
    ∷ bad halves (record_of 1 32768 (1 ∷ []) (0 ∷ 1 ∷ 1 ∷ 0 ∷ []))
    ∷ bad halves (record_of 0 32768 (0 ∷ []) (32768 ∷ 32768 ∷ 32768 ∷ 32768 ∷ []))
    -- more than 1,000 rounds, no number free, a number taken after 1,000 rounds
    ∷ bad halves (record_of 0 1001 (0 ∷ []) (1001 ∷ 1001 ∷ 1001 ∷ 1001 ∷ []))
    ∷ bad halves (record_of 2 0 (3 ∷ []) (1 ∷ 1 ∷ 1 ∷ 1 ∷ []))
    ∷ bad (ones 256) (record_of 256 0 (replicate 32 255) (256 ∷ []))
    ∷ bad halves (record_of 1 1000 (1 ∷ []) (1000 ∷ 1001 ∷ 1001 ∷ 1000 ∷ []))
    -- the tally of the other number, of this round alone, of a round too many, and wrong in its last cell
    ∷ bad halves (record_of 1 0 (1 ∷ []) (1 ∷ 0 ∷ 0 ∷ 1 ∷ []))
    ∷ bad halves (record_of 1 2 (2 ∷ []) (1 ∷ 0 ∷ 0 ∷ 1 ∷ []))
    ∷ bad halves (record_of 0 0 (0 ∷ []) (1 ∷ 1 ∷ 1 ∷ 1 ∷ []))
    ∷ bad halves (record_of 1 0 (1 ∷ []) (0 ∷ 1 ∷ 1 ∷ 1 ∷ []))
    -- a number of the tally of which only the low part is right, in each cell
    ∷ bad halves (record_of 1 0 (1 ∷ []) (256 ∷ 1 ∷ 1 ∷ 0 ∷ []))
    ∷ bad halves (record_of 1 0 (1 ∷ []) (0 ∷ 65537 ∷ 1 ∷ 0 ∷ []))
    ∷ bad halves (record_of 1 0 (1 ∷ []) (0 ∷ 1 ∷ 4294967297 ∷ 0 ∷ []))
    ∷ bad halves (record_of 1 0 (1 ∷ []) (0 ∷ 1 ∷ 1 ∷ 4294967296 ∷ []))
    ∷ bad halves (record_of 1 0 (1 ∷ []) (0 ∷ 1 ∷ 1 ∷ 9223372036854775808 ∷ []))
    ∷ []
