-- How many bytes a plan has, by its first eight. Assumes nothing.
use mathlib.Core.Path.{◌≡◌, refl, sym, ◌∙◌}
use mathlib.Core.Bool.{Bool, true, false, cond, ◌&&◌}
use mathlib.Core.List.{List}
use Prim.Native.Nat.{ℕ, ◌<◌, ◌≤◌}
use native.Mathlib.Omega.{arith}
use borrow.Author.Tests.{le-leb, lt-leb}
use lib.Dec.{leb}
use lib.ListN.{length}
use Rattle.base.proofs.Lists.{and_right}
use Rattle.form.specs.Form.{length_of, start_right}
use Rattle.form.proofs.Layouts.{length_least, length_most}
use Rattle.variance_text.specs.VarianceText.{to_read}
use Rattle.variance_text.specs.Read.{PlanLength}

module _ (b : List ℕ) where
  pub short_eight : length b < 8 → to_read b ≡ 8
  unfolding to_read
  short_eight h = simp (lt-leb 8 (length b) h)

  wrong_eight : start_right b ≡ false → to_read b ≡ 8
  unfolding to_read
  wrong_eight h = go (leb 8 (length b))
    where
      go : (t : Bool) → cond (t && start_right b) (length_of b) 8 ≡ 8
      go true = simp h
      go false = refl

  right_said : 8 ≤ length b → start_right b ≡ true → to_read b ≡ length_of b
  unfolding to_read
  right_said h k = simp (le-leb 8 (length b) h, k)

  eight : to_read b ≡ 8 → PlanLength b 8
  eight e = record { is = sym e; least = omega arith; most = omega arith }

  pub short_length : length b < 8 → PlanLength b 8
  short_length h = eight (short_eight h)

  module _ (t : Bool) (e : t ≡ start_right b) where
    pub wrong_length : t ≡ false → PlanLength b 8
    wrong_length h = eight (wrong_eight (sym e ∙ h))

    pub right_length : t ≡ true → 8 ≤ length b → (r : ℕ) → r ≡ length_of b → PlanLength b r
    right_length h l r s =
        let k = sym e ∙ h in
        record { is = s ∙ sym (right_said l k); least = omega (arith, s, length_least b k); most = omega (arith, s, length_most b k) }

  -- at least eight bytes, whatever they are
  pub read_least : 8 ≤ to_read b
  unfolding to_read
  read_least = go (leb 8 (length b) && start_right b) refl
    where
      go : (t : Bool) → (leb 8 (length b) && start_right b) ≡ t → 8 ≤ cond t (length_of b) 8
      go true e = omega (arith, length_least b (and_right (leb 8 (length b)) (start_right b) e))
      go false e = omega arith
