-- The division of an entry that is not below zero, by that of numbers of either sign. Assumes nothing.
use mathlib.Core.Path.{◌≡◌, refl, ap, ◌∙◌}
use mathlib.Core.Bool.{Bool, true, false, not, cond}
use Prim.Native.Nat.{ℕ, ◌/◌, ◌%◌}
use native.Mathlib.Nat.{div-le_self}
use native.Mathlib.Omega.{arith}
use lib.Dec.{eqb}
use lib.IntN.{pos, nat_abs}
use mir.Syntax.{w64}
use mir.Val.{SFits, to_z, bool_byte}
use mir.Facts.{to_z-of_z}
use Rattle.base.proofs.Signs.{there, signed_is}
use Rattle.division.specs.Clauses as signed
use Rattle.division.specs.declared.Divided as signed-declared
use Rattle.table.specs.Clauses.{Dividable, Divides}
use Rattle.table.specs.Whole.{gap, whole}

module _ {w e : ℕ} (a : Dividable w e) {d : signed-declared.Divided} (q : signed.Divides w (to_z w64 e) d) where
  quotient : d.whole ≡ pos (e / w)
  quotient = rw (signed_is e a.small) at q.whole_is

  left : d.rest ≡ e % w
  left = rw (signed_is e a.small) at q.rest_is

  fits : SFits w64 (pos (e / w))
  fits = record { sfits = omega (arith, a.small, div-le_self e w) }

  back : there d.whole ≡ pos (e / w)
  back = ap there quotient ∙ to_z-of_z fits

  gap_of : (b : Bool) → bool_byte (not b) ≡ cond b 0 1
  gap_of true = refl
  gap_of false = refl

  pub divided : Divides w e (record { whole = nat_abs (there d.whole); rest = d.rest; gap = bool_byte (not (eqb d.rest 0)) })
  unfolding gap whole
  divided = record {
    whole_is = ap nat_abs back;
    rest_is = left;
    gap_is = ap (λ (r : ℕ). bool_byte (not (eqb r 0))) left ∙ gap_of (eqb (e % w) 0);
  }
