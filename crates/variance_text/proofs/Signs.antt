-- Numbers with a sign, as the code writes them. Assumes nothing.
use mathlib.Core.Path.{◌≡◌, ap, ◌∙◌}
use mathlib.Core.List.{List, [], ◌∷◌, ◌++◌}
use Prim.Native.Nat.{ℕ, suc, ◌+◌, ◌-◌, ◌<◌, ◌≤◌}
use native.Mathlib.Omega.{arith}
use lib.IntN.{ℤ, pos, negsuc, sub_ℕ}
use lib.ListN.{length}
use Rattle.covariances.specs.Covariance.{lift}
use Rattle.base.proofs.Differences.{sub_below, sub_above}
use Rattle.printing.specs.Lines.{decimal}
use Rattle.printing.specs.Clauses.{Room}
use Rattle.printing.specs.Write.{Wrote}
use Rattle.printing.proofs.Decimals.{decimal_most}
use Rattle.printing.proofs.Writes.{room_first, room_then, wrote_then}
use Rattle.variance_text.specs.VarianceText.{signed}

-- at most a sign and 20 digits
pub signed_most : (z : ℤ) → length (signed z) ≤ 21
unfolding signed
signed_most (pos n) = omega (arith, decimal_most n)
signed_most (negsuc n) = omega (arith, decimal_most (suc n))

module _ (x : ℕ) where
  below_is : x < lift → signed (sub_ℕ x lift) ≡ 45 ∷ decimal (lift - x)
  unfolding signed
  below_is h = ap signed (sub_below x lift h) ∙ ap (λ (n : ℕ). 45 ∷ decimal n) (omega arith)

  above_is : lift ≤ x → signed (sub_ℕ x lift) ≡ decimal (x - lift)
  unfolding signed
  above_is h = ap signed (sub_above x lift h)

  module _ {out : List ℕ} {at : ℕ} (h : Room out at (signed (sub_ℕ x lift))) where
    module _ (l : x < lift) where
      parts : Room out at ((45 ∷ []) ++ decimal (lift - x))
      parts = rw (below_is l) at h

      pub sign_room : at + 1 ≤ length out
      sign_room = (room_first (45 ∷ []) _ parts).fits

      module _ {after : List ℕ} {end : ℕ} (w : Wrote out at (45 ∷ []) after end) where
        pub below_room : Room after end (decimal (lift - x))
        below_room = room_then (45 ∷ []) _ parts w

        pub below_wrote : {last : List ℕ} {r : ℕ} → Wrote after end (decimal (lift - x)) last r → Wrote out at (signed (sub_ℕ x lift)) last r
        below_wrote v = rw (below_is l) (wrote_then (45 ∷ []) _ parts w v)

    module _ (l : lift ≤ x) where
      pub above_room : Room out at (decimal (x - lift))
      above_room = rw (above_is l) at h

      pub above_wrote : {last : List ℕ} {r : ℕ} → Wrote out at (decimal (x - lift)) last r → Wrote out at (signed (sub_ℕ x lift)) last r
      above_wrote w = rw (above_is l) w
