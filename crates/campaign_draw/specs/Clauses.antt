-- What inner functions are held to. Assumes nothing.
use Rattle.std.specs.Prelude.{◌≡◌, List, ℕ, ◌+◌, ◌*◌, ◌<◌, ◌≤◌, length, get_or}
use Rattle.table.specs.Table.{max_denominator, max_expected}
use Rattle.records.specs.declared.Record.{Record}
use Rattle.records.specs.Record.{record_of, max_rounds}
use Rattle.bits.specs.Bits.{bit_bytes}
use Rattle.campaign_draw.specs.Draw.{closed}

-- the most that a tally can come to: the largest cell in each of 1,000 rounds, and in the round that goes on
abbrev pub max_tally : ℕ
max_tally = (max_rounds + 1) * (max_expected * max_denominator)

-- counts can be added to the first numbers of a tally
pub record Addends (counts tally : List ℕ) : Type 0 where
  pub tally_room : length counts ≤ length tally
  pub small : (i : ℕ) → i < length counts → get_or tally i 0 + get_or counts i 0 ≤ max_tally

-- a round that goes on, and bits enough for it
pub record Closable (denominator rounds : ℕ) (bits : List ℕ) : Type 0 where
  pub going : rounds < max_rounds
  pub small : denominator ≤ max_denominator
  pub room : bit_bytes denominator ≤ length bits

-- what is left, whatever the tally, of a record whose round is completed where no number is free
abbrev pub Closes : ℕ → Record → List ℕ → Record → List ℕ → Type 0
Closes denominator s bits s' bits' =
    (tally : List ℕ) → record_of s'.taken s'.rounds bits' tally ≡ closed denominator (record_of s.taken s.rounds bits tally)
