-- All entries are whole just if the weight is all that is left. Assumes nothing.
use mathlib.Core.Path.{◌≡◌, refl, sym, ◌∙◌}
use mathlib.Core.Bool.{Bool, true, false}
use mathlib.Core.List.{List}
use Prim.Native.Nat.{ℕ, ◌%◌, ◌<◌}
use native.Mathlib.Nat.{mod-lt}
use native.Mathlib.Decide.{ℕ_discrete}
use native.Mathlib.Omega.{arith}
use lib.Dec.{eqb}
use borrow.Author.Tests.{eq-eqb, ne_eqb, eqb-true}
use Rattle.base.proofs.Lists.{all_at_member, all_of_members}
use Rattle.table.specs.Table.{total, entry_places}
use Rattle.table.specs.Whole.{whole, rounds_to}
use Rattle.table.specs.Clauses.{Shape}
use Rattle.is_rounding.specs.Rounding.{two_ways, is_rounding}
use Rattle.first_rounding.specs.First.{first_rounding}
use Rattle.first_rounding.proofs.Existence.{first_exists}
use Rattle.planning.specs.Rounds.{limit_of, weight_of, round_on}
use Rattle.planning.proofs.Entries.{Side, below, above, side, limit_high}
use Rattle.planning.proofs.OneRound.{entry_rounds, attains, weight_most}
use Rattle.reasons.specs.Reason.{all_whole}

-- one entry: whole just if its limit is w
module _ (w : ℕ) (wp : 0 < w) (e n : ℕ) (h : rounds_to w e n ≡ true) where
  pub whole_limit : whole w e ≡ true → limit_of w e n ≡ w
  unfolding whole
  whole_limit z = go (side w wp e n h)
    where
      go : Side w wp e n h → limit_of w e n ≡ w
      go (below q l) = omega (arith, eqb-true (e % w) 0 z)
      go (above q p l) = absurd (omega (arith, eqb-true (e % w) 0 z))

  pub limit_whole : limit_of w e n ≡ w → whole w e ≡ true
  unfolding whole
  limit_whole z = go (side w wp e n h)
    where
      go : Side w wp e n h → eqb (e % w) 0 ≡ true
      go (below q l) = eq-eqb (e % w) 0 (omega arith)
      go (above q p l) = absurd (omega (arith, mod-lt e wp))

module _ {r c : ℕ} {g : List ℕ} (s : Shape r c g) (w : ℕ) (wp : 0 < w) where
  rounding : is_rounding (two_ways r c) w g (first_rounding r c w g) ≡ true
  rounding = (first_exists s wp).rounding

  abbrev y : ℕ
  y = weight_of r c w g (first_rounding r c w g)

  pub all_whole_lem : y ≡ w → all_whole r c (round_on r c w g) ≡ true
  unfolding all_whole
  all_whole_lem e = all_of_members (λ x. whole w (total g x)) (entry_places r c)
      (λ x m. let k = entry_rounds s w wp _ rounding m in
      limit_whole w wp _ _ k (omega (arith, weight_most s w wp _ rounding m, limit_high w wp _ _ k)))

  pub whole_all : all_whole r c (round_on r c w g) ≡ true → y ≡ w
  unfolding all_whole
  whole_all h =
      let t = attains s w wp _ rounding in
      t.is ∙ whole_limit w wp _ _ (entry_rounds s w wp _ rounding t.member) (all_at_member (λ x. whole w (total g x)) (entry_places r c) h t.member)

  pub all_whole_is : all_whole r c (round_on r c w g) ≡ eqb y w
  all_whole_is = go (ℕ_discrete y w)
    where
      not_all : (b : Bool) → all_whole r c (round_on r c w g) ≡ b → (y ≡ w → ⊥) → all_whole r c (round_on r c w g) ≡ false
      not_all false e n = e
      not_all true e n = absurd (n (whole_all e))

      go : Dec (y ≡ w) → all_whole r c (round_on r c w g) ≡ eqb y w
      go (yes e) = all_whole_lem e ∙ sym (eq-eqb y w e)
      go (no n) = not_all _ refl n ∙ sym (ne_eqb y w n)
