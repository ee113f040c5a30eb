-- Rounding down and up, whole entries and the rounding of one entry (specification, "From table to campaign" and "The rounding"). Assumes nothing.
use Rattle.std.specs.Prelude.{Bool, cond, not, ◌&&◌, ◌||◌, ℕ, ◌+◌, ◌/◌, ◌%◌, eqb}

-- the entry over w, rounded down
abbrev pub down : ℕ → ℕ → ℕ
down w e = e / w

-- w divides the entry
unfoldable pub whole : ℕ → ℕ → Bool
whole w e = eqb (e % w) 0

-- 1 where an entry is not whole, else 0: by how much it may be rounded up
unfoldable pub gap : ℕ → ℕ → ℕ
gap w e = cond (whole w e) 0 1

-- the entry over w, rounded up
abbrev pub up : ℕ → ℕ → ℕ
up w e = down w e + gap w e

-- the count n is the entry over w, rounded down or up; of a whole entry it is the entry over w
unfoldable pub rounds_to : ℕ → ℕ → ℕ → Bool
rounds_to w e n = eqb n (down w e) || (not (whole w e) && eqb n (down w e + 1))
