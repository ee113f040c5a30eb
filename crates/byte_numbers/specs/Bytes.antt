-- Numbers in bytes, the low byte first (specification, "Stored plan, form 1"). Assumes nothing.
use Rattle.std.specs.Prelude.{List, [], ◌∷◌, ℕ, zero, suc, ◌+◌, ◌*◌, ◌/◌, ◌%◌, get_or}

-- a number in n bytes, the low one first
unfoldable pub bytes : ℕ → ℕ → List ℕ
bytes zero x = []
bytes (suc n) x = x % 256 ∷ bytes n (x / 256)

-- the number in the n bytes from a place on
unfoldable pub number : ℕ → List ℕ → ℕ → ℕ
number zero b at = 0
number (suc n) b at = get_or b at 0 + 256 * number n b (at + 1)
