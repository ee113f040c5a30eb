-- What the functions of this crate require, and how many bits are set. Assumes nothing.
use Rattle.std.specs.Prelude.{◌≡◌, List, ℕ, ◌+◌, ◌*◌, ◌<◌, ◌≤◌, length}
use Rattle.base.specs.Lists.{sum_to}
use Rattle.table.specs.Table.{max_denominator}
use Rattle.bits.specs.Bits.{bit_of, bit_bytes}

-- how many of `count` bits from `from` on are set
abbrev pub bits_set : List ℕ → ℕ → ℕ → ℕ
bits_set bits from count = sum_to count (λ j. bit_of bits (from + j))

-- `count` bits from `from` on are there, and the code's sums of them stay small
pub record Span (from count : ℕ) (bits : List ℕ) : Type 0 where
  pub begins : from ≤ max_denominator
  pub few : count ≤ max_denominator
  pub room : from + count ≤ 8 * length bits

-- the bytes of `count` bits are there
pub record Spared (count : ℕ) (bits : List ℕ) : Type 0 where
  pub few : count ≤ max_denominator
  pub room : bit_bytes count ≤ length bits

-- bit d is there and not set
pub record Unset (d : ℕ) (bits : List ℕ) : Type 0 where
  pub there : d < 8 * length bits
  pub unset : bit_of bits d ≡ 0
