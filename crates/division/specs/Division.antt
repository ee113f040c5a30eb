-- Rounding down and the rest of a division, of numbers of either sign (specification, "The rounding" and "The rounding of corrections"). Assumes nothing.
use Rattle.std.specs.Prelude.{◌≡◌, ℕ, suc, ◌-◌, ◌/◌, ◌%◌, ◌<◌, ℤ, pos, negsuc, ◌+ℤ◌, ◌*ℤ◌}

-- A number with a sign is pos m, which is m, or negsuc m, which is -(m + 1).
-- The number over w, rounded towards minus infinity: -1 over w is -1, -w over w is -1, and -(w + 1) over w is -2.
abbrev pub down : ℕ → ℤ → ℤ
down w (pos m) = pos (m / w)
down w (negsuc m) = negsuc (m / w)

-- what is left over, from 0 to below w: -1 leaves w - 1, -w leaves 0
abbrev pub rest : ℕ → ℤ → ℕ
rest w (pos m) = m % w
rest w (negsuc m) = w - suc (m % w)

-- What these are without cases: z is q times w and f more, f below w. For each z and w only one q and one f are.
pub record Parts (w : ℕ) (z q : ℤ) (f : ℕ) : Type 0 where
  pub sum : q *ℤ pos w +ℤ pos f ≡ z
  pub small : f < w
