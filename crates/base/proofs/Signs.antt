-- Numbers with a sign, as the machine holds them. Assumes nothing.
use mathlib.Core.Path.{◌≡◌, ap, ◌∙◌}
use Prim.Native.Nat.{ℕ, ◌^◌, ◌<◌}
use native.Mathlib.Omega.{arith}
use lib.Dec.{T}
use lib.IntN.{ℤ, pos, nat_abs}
use lib.Signed.{◌≤ℤ◌, non_neg, yes_non_neg, pos-nat_abs}
use mir.Syntax.{w32, w64}
use mir.Val.{Fits, SFits, to_z, of_z}
use mir.Facts.{to_z-of_z, to_z_pos, Fits-nat_abs}

-- a number, to the machine's 64 bits and back
abbrev pub there : ℤ → ℤ
there z = to_z w64 (of_z w64 z)

pub signed_is : (x : ℕ) → x < 2 ^ 63 → to_z w64 x ≡ pos x
signed_is x h = to_z_pos w64 h

-- a number that is not below zero
module _ {z : ℤ} (f : SFits w64 z) (h : pos 0 ≤ℤ z) where
  pub natural_fits : T (non_neg (there z)) × Fits w64 (nat_abs (there z))
  natural_fits = (rw (to_z-of_z f) (yes_non_neg h), rw (to_z-of_z f) (Fits-nat_abs {w = w64} {w' = w64} tt f))

  pub natural_is : pos (nat_abs (there z)) ≡ z
  natural_is = ap (λ (y : ℤ). pos (nat_abs y)) (to_z-of_z f) ∙ pos-nat_abs z (yes_non_neg h)

-- a number of 32 bits in 64
module _ {z : ℤ} (f : SFits w32 z) where
  pub wider : SFits w64 z
  wider = record { sfits = omega (arith, f.sfits) }

  pub wider_fits : SFits w64 (to_z w32 (of_z w32 z))
  wider_fits = rw (to_z-of_z f) wider

  pub wider_is : there (to_z w32 (of_z w32 z)) ≡ z
  wider_is = ap there (to_z-of_z f) ∙ to_z-of_z wider
