-- Numbers that are put into a buffer. Assumes nothing.
use mathlib.Core.Path.{◌≡◌, refl}
use mathlib.Core.List.{List, ◌++◌}
use Prim.Native.Nat.{ℕ, ◌+◌, ◌-◌, ◌%◌, ◌<◌, ◌≤◌}
use native.Mathlib.Nat.{div-div-eq-div-mul}
use native.Mathlib.Omega.{arith}
use lib.ListN.{length, set, take, drop}
use Rattle.std.specs.Int.{w16, w32, to_le_bytes}
use Rattle.base.specs.Buffers.{put_at}
use Rattle.base.proofs.Puts.{put_one, put_part}
use Rattle.byte_numbers.specs.Bytes.{bytes}

-- std's bytes of a number of two bytes, and of four
bytes_two : (x : ℕ) → to_le_bytes w16 x ≡ bytes 2 x
unfolding bytes
bytes_two x = refl

bytes_four : (x : ℕ) → to_le_bytes w32 x ≡ bytes 4 x
unfolding bytes
bytes_four x = rw (div-div-eq-div-mul x 256 256, div-div-eq-div-mul x 65536 256) refl

-- put at a place, and copied over the part that begins there
module _ (old : List ℕ) (at : ℕ) where
  pub put_byte : (x : ℕ) → x < 256 → at + 1 ≤ length old → set old at x ≡ put_at old at (bytes 1 x)
  unfolding bytes
  put_byte x f h = let e : x % 256 ≡ x = omega arith in rw e (put_one old at x h)

  pub put_two : (x : ℕ) → take at old ++ (to_le_bytes w16 x ++ drop (at + 2 - at) (drop at old)) ≡ put_at old at (bytes 2 x)
  put_two x = rw (← bytes_two x) (put_part old (to_le_bytes w16 x) at (at + 2 - at) (omega arith))

  pub put_four : (x : ℕ) → take at old ++ (to_le_bytes w32 x ++ drop (at + 4 - at) (drop at old)) ≡ put_at old at (bytes 4 x)
  put_four x = rw (← bytes_four x) (put_part old (to_le_bytes w32 x) at (at + 4 - at) (omega arith))
