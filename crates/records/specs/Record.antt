-- The campaign record, and when it fits a plan (specification, "Campaign record"). Assumes nothing.
use Rattle.std.specs.Prelude.{Bool, ◌&&◌, ◌||◌, List, ℕ, ◌+◌, ◌*◌, length, get_or, leb, ltb, eqb}
use Rattle.base.specs.Lists.{sum_to, every}
use Rattle.weighted_arrays.specs.Plan.{Plan, cell_count, array_for}
use Rattle.bits.specs.Bits.{bit_of, bit_bytes, spare_clear}

-- how many numbers are taken in this round, how many rounds are completed, a bit for each number, and a sum for each cell
pub record CampaignRecord : Type 0 where
  pub taken : ℕ
  pub rounds : ℕ
  pub bits : List ℕ
  pub tally : List ℕ

-- the record of its parts
abbrev pub record_of : ℕ → ℕ → List ℕ → List ℕ → CampaignRecord
record_of taken rounds bits tally = record { taken = taken; rounds = rounds; bits = bits; tally = tally }

-- a campaign has at most so many rounds
abbrev pub max_rounds : ℕ
max_rounds = 1000

-- what the arrays of the numbers whose bits are set add up to at one cell
abbrev pub taken_sum : Plan → List ℕ → ℕ → ℕ
taken_sum p bits i = sum_to p.denominator (λ d. bit_of bits d * get_or (array_for p.arrays d) i 0)

-- where a campaign over D numbers can stand: at most 1,000 rounds are completed, a number is free, and none is taken after 1,000 rounds
unfoldable pub within : ℕ → ℕ → ℕ → Bool
within denominator taken rounds = leb rounds max_rounds && ltb taken denominator && (ltb rounds max_rounds || eqb taken 0)

-- a record fits a plan if no spare bit is set, the count is that of the set bits, count and rounds are where a campaign can stand, and the tally is rounds
-- times the table plus what the arrays of the numbers taken in this round add up to
unfoldable pub fits : Plan → CampaignRecord → Bool
fits p s =
    spare_clear p.denominator s.bits
    && eqb s.taken (sum_to p.denominator (bit_of s.bits))
    && within p.denominator s.taken s.rounds
    && every (cell_count p) (λ i. eqb (get_or s.tally i 0) (s.rounds * get_or p.cells i 0 + taken_sum p s.bits i))

-- neither buffer of the record is shorter than the record of the plan
abbrev pub room_for : Plan → CampaignRecord → Bool
room_for p s = leb (bit_bytes p.denominator) (length s.bits) && leb (cell_count p) (length s.tally)
