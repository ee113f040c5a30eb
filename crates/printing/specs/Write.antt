-- What is written into a lent buffer. Assumes nothing.
use Rattle.std.specs.Prelude.{◌≡◌, List, ℕ, ◌+◌, length}
use Rattle.base.specs.Buffers.{put_at}

-- a call wrote some bytes from a place on, and returned the place after them
pub record Wrote (out : List ℕ) (at : ℕ) (s after : List ℕ) (r : ℕ) : Type 0 where
  pub next : r ≡ at + length s
  pub buffer : after ≡ put_at out at s
