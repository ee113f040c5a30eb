-- What the functions of this crate require. Assumes nothing.
use Rattle.std.specs.Prelude.{ℕ, ◌*◌, ◌^◌, ◌<◌}

-- two numbers from 1 on whose product fits 64 bits
pub record Multipliable (a b : ℕ) : Type 0 where
  pub some_first : 0 < a
  pub some_second : 0 < b
  pub fits : a * b < 2 ^ 64
