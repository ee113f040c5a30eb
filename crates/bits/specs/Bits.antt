-- A bit for each number, in bytes (specification, "Campaign record"). Assumes nothing.
use Rattle.std.specs.Prelude.{Bool, List, ℕ, ◌+◌, ◌-◌, ◌*◌, ◌/◌, ◌%◌, ◌^◌, get_or, eqb}
use Rattle.base.specs.Lists.{every}

-- the bit of number d: of byte d / 8 the one worth 2 to the d mod 8
unfoldable pub bit_of : List ℕ → ℕ → ℕ
bit_of bits d = get_or bits (d / 8) 0 / 2 ^ (d % 8) % 2

-- how many bytes the bits of a denominator take
abbrev pub bit_bytes : ℕ → ℕ
bit_bytes denominator = (denominator + 7) / 8

-- the bits of the last byte that no number has are 0
abbrev pub spare_clear : ℕ → List ℕ → Bool
spare_clear count bits = every (8 * bit_bytes count - count) (λ i. eqb (bit_of bits (count + i)) 0)
