-- The two ways through the division, and each machine operation on them. Assumes nothing.
use mathlib.Core.Path.{◌≡◌, refl, sym, ap, ◌∙◌}
use mathlib.Core.Bool.{true, false}
use Prim.Native.Nat.{ℕ, zero, suc, ◌-◌, ◌/◌, ◌%◌, ◌^◌, ◌<◌}
use native.Mathlib.Nat.{zero-add, div-le_self}
use native.Mathlib.Omega.{arith}
use borrow.Author.Tests.{le-ltb, ltb-true}
use lib.Dec.{le→leb}
use lib.IntN.{ℤ, pos, negsuc, ◌-ℤ◌}
use lib.Signed.{◌≤ℤ◌, lt_z, le_z_yes}
use mir.Syntax.{w64}
use mir.Val.{SFits}
use mir.Facts.{to_z-of_z}
use Rattle.base.proofs.Signs.{there}
use Rattle.division.specs.Division.{down, rest}
use Rattle.division.specs.Clauses.{flip_of, Divides}

flips : (z : ℤ) → negsuc 0 -ℤ z ≡ flip_of z
flips (pos zero) = refl
flips (pos (suc n)) = simp zero-add
flips (negsuc n) = rw (le-ltb (suc n) 1 (omega arith)) (ap pos (omega arith))

flipped_fits : (z : ℤ) → SFits w64 z → SFits w64 (flip_of z)
flipped_fits (pos n) h = record { sfits = h.sfits }
flipped_fits (negsuc n) h = record { sfits = h.sfits }

module _ (z : ℤ) (h : SFits w64 z) where
  pub flip_fits : SFits w64 (negsuc 0 -ℤ there z)
  flip_fits = rw (to_z-of_z h, flips z) (flipped_fits z h)

  pub flip_is : there (negsuc 0 -ℤ there z) ≡ flip_of z
  flip_is = rw (to_z-of_z h, flips z) (to_z-of_z (flipped_fits z h))

-- a number that was tested to be below zero, with what is divided in its place; and one that was not
module _ {a f : ℤ} (fa : SFits w64 a) (t : lt_z (there a) (pos 0) ≡ true) (e : f ≡ flip_of (there a)) where
  flipped : there f ≡ flip_of a
  flipped = ap there (e ∙ ap flip_of (to_z-of_z fa)) ∙ to_z-of_z (flipped_fits a fa)

  pub flipped_natural : pos 0 ≤ℤ there f
  flipped_natural = rw flipped (go a (rw (to_z-of_z fa) at t))
    where
      go : (z : ℤ) → lt_z z (pos 0) ≡ true → pos 0 ≤ℤ flip_of z
      go (pos m) h = let l : m < 0 = ltb-true m 0 h in absurd (omega arith)
      go (negsuc m) h = le_z_yes (le→leb 0 m (omega arith))

  pub below_zero : {b : ℕ} → pos b ≡ there f → a ≡ negsuc b
  below_zero {b} p = go a (p ∙ flipped) (rw (to_z-of_z fa) at t)
    where
      go : (z : ℤ) → pos b ≡ flip_of z → lt_z z (pos 0) ≡ true → z ≡ negsuc b
      go (pos m) q h = let l : m < 0 = ltb-true m 0 h in absurd (omega arith)
      go (negsuc m) q h = cc

module _ {a : ℤ} (fa : SFits w64 a) (t : lt_z (there a) (pos 0) ≡ false) where
  pub natural : pos 0 ≤ℤ there a
  natural = go (there a) t
    where
      go : (z : ℤ) → lt_z z (pos 0) ≡ false → pos 0 ≤ℤ z
      go (pos m) h = le_z_yes (le→leb 0 m (omega arith))
      go (negsuc m) h = let z : ◌≡◌ {A = ℕ} 0 1 = cc in absurd (omega arith)

  pub from_zero : {b : ℕ} → pos b ≡ there a → a ≡ pos b
  from_zero p = sym (p ∙ to_z-of_z fa)

-- the quotient of either fits, and is what the division promises
module _ {w : ℕ} (h : 0 < w) {a : ℤ} (fa : SFits w64 a) (b : ℕ) where
  module _ (is : a ≡ negsuc b) where
    pub below_fits : b / w < 2 ^ 63
    below_fits = let s : SFits w64 (negsuc b) = rw is at fa in omega (arith, s.sfits, div-le_self b w)

    pub divided_below : {u q : ℤ} {f : ℕ} → u ≡ pos (b / w) → q ≡ flip_of (there u) → f ≡ w - 1 - b % w → Divides w a (record { whole = there q; rest = f })
    divided_below {u} {q} {f} p e r =
        let bits : SFits w64 (pos (b / w)) = record { sfits = below_fits } in
        let back : q ≡ negsuc (b / w) = e ∙ ap (λ (z : ℤ). flip_of (there z)) p ∙ ap flip_of (to_z-of_z bits) in
        record {
          whole_is = ap there back ∙ to_z-of_z {w = w64} (record { sfits = below_fits }) ∙ ap (down w) (sym is);
          rest_is = r ∙ omega arith ∙ ap (rest w) (sym is);
        }

  module _ (is : a ≡ pos b) where
    pub natural_fits : b / w < 2 ^ 63
    natural_fits = let s : SFits w64 (pos b) = rw is at fa in omega (arith, s.sfits, div-le_self b w)

    pub divided_natural : {q : ℤ} {f : ℕ} → q ≡ pos (b / w) → f ≡ b % w → Divides w a (record { whole = there q; rest = f })
    divided_natural p r = record {
      whole_is = ap there p ∙ to_z-of_z {w = w64} (record { sfits = natural_fits }) ∙ ap (down w) (sym is);
      rest_is = r ∙ ap (rest w) (sym is);
    }
