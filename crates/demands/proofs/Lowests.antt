-- Where the ranks of a call's list never fall, the refusal that is due is the lowest that applies; and a cell below zero. Assumes nothing.
use Rattle.std.specs.Prelude.{Some}
use mathlib.Core.Path.{◌≡◌, refl, sym, ap, ap₂, ◌∙◌, subst}
use mathlib.Core.Bool.{Bool, true, false, not, ◌&&◌, ◌||◌}
use mathlib.Core.List.Memᴰ.{head as here}
use mathlib.Core.List.Memᴰ.{tail as there}
use mathlib.Core.List.{List, [], ◌∷◌, zip_with, Memᴰ as Member}
use Prim.Native.Nat.{ℕ, ◌*◌, ◌≤◌}
use native.Mathlib.Nat.{le_refl}
use lib.ListN.{length}
use lib.Dec.{leb, ltb}
use borrow.Author.Tests.{leb-true}
use Rattle.base.specs.Lists.{all}
use Rattle.base.proofs.Lists.{and_left, and_right, all_at_member}
use Rattle.refusals.specs.declared.Refusal.{Refusal}
use Rattle.refusals.specs.declared.Refusal.TheVariants.{LargeCell, Buffer, Array}
use Rattle.refusals.specs.Places.{place_in}
use Rattle.refusals.specs.Due.{Test, refuse, due}
use Rattle.refusals.proofs.Dues.{due_here, due_next, due_first, none_applies_lem}
use Rattle.table.specs.Check.{up_to, table_tests, table_refusal}
use Rattle.table.proofs.Checks.{below_zero}
use Rattle.planning.specs.Rounds.{plan_of}
use Rattle.rounding.specs.Call.{round_refusal}
use Rattle.corrections.specs.Call as corrections
use Rattle.walk.specs.Call.{first_refusal, next_refusal}
use Rattle.walk.proofs.Calls.{first_below_zero, next_below_zero}
use Rattle.plan.specs.Call.{plan_bytes, plan_refusal}
use Rattle.opening.specs.Open.{open_refusal, part_refusal}
use Rattle.drawing.specs.Draw.{draw_refusal}
use Rattle.plan_parts.specs.Array.{array_refusal}
use Rattle.reasons.specs.Call.{reason_tests}
use Rattle.reason_numbers.specs.Numbers.{room_tests, reply_refusal}
use Rattle.campaign_start.specs.Start.{start_refusal}
use Rattle.campaign_draw.specs.Draw.{campaign_refusal}
use Rattle.pool.specs.Pool.{pooling_tests, pooling_refusal, pool_refusal}
use Rattle.pool.proofs.Checking.{either_below_zero}
use Rattle.demands.specs.Refusals.{Lowest, Refuses, EachRefuses, BelowZeroRefused}

module _ (rank : Refusal → ℕ) where
  -- no row ranks higher than a row after it
  abbrev before : Test → Test → Bool
  before t u = leb (rank t.refusal) (rank u.refusal)

  unfoldable rising : List Test → Bool
  rising [] = true
  rising (t ∷ l) = all (before t) l && rising l

  module _ (t : Test) (l : List Test) (up : rising (t ∷ l) ≡ true) where
    above : all (before t) l ≡ true
    unfolding rising
    above = and_left (all (before t) l) (rising l) up

    above_rest : rising l ≡ true
    unfolding rising
    above_rest = and_right (all (before t) l) (rising l) up

  -- the row of a member that applies, at the front of the list or after it
  in-front : (t : Test) (l : List Test) (y : Refusal) → t.applies ≡ true → rising (t ∷ l) ≡ true → Member (refuse y true) (t ∷ l) → rank t.refusal ≤ rank y
  in-front t l y e up (here q) = let z : y ≡ t.refusal = ap (λ (u : Test). u.refusal) q in rw z (le_refl _)
  in-front t l y e up (there m) = leb-true _ _ (all_at_member (before t) l (above t l up) m)

  behind : (t : Test) (l : List Test) (y : Refusal) → t.applies ≡ false → Member (refuse y true) (t ∷ l) → Member (refuse y true) l
  behind t l y e (here q) = absurd (let z : ◌≡◌ {A = Bool} true false = ap (λ (u : Test). u.applies) q ∙ e in cc)
  behind t l y e (there m) = m

  lowest : (l : List Test) → rising l ≡ true → (x : Refusal) → due l ≡ Some x → Lowest rank l x
  unfolding due
  lowest [] up x h = cc
  lowest (t ∷ l) up x h = go t.applies refl (lowest l (above_rest t l up) x)
    where
      go : (b : Bool) → t.applies ≡ b → (due l ≡ Some x → Lowest rank l x) → Lowest rank (t ∷ l) x
      go true e next =
          let is : Some t.refusal ≡ Some x = sym (due_here t l e) ∙ h in
          let r : t.refusal ≡ x = cc in
          record {
            applies = here (ap₂ refuse (sym r) (sym e));
            lowest = λ y m. subst (λ (z : Refusal). rank z ≤ rank y) r (in-front t l y e up m);
          }
      go false e next =
          let k = next (sym (due_next t l e) ∙ h) in
          record { applies = there k.applies; lowest = λ y m. k.lowest y (behind t l y e m) }

  refuses : (l : List Test) → rising l ≡ true → Refuses rank l (due l)
  refuses l up = record { refused = lowest l up; accepted = none_applies_lem l }

-- each call by the order that its statement names
pub each_refuses : EachRefuses
unfolding rising place_in all zip_with round_refusal corrections.round_refusal plan_refusal open_refusal part_refusal draw_refusal start_refusal campaign_refusal pool_refusal reply_refusal array_refusal first_refusal next_refusal
each_refuses = record {
  rounding = λ r c d g room. refuses _ _ refl;
  corrections = λ r c d g room. refuses _ _ refl;
  plan = λ r c d g room. refuses _ _ refl;
  opening = λ b. refuses _ _ refl;
  parts = λ b need room. refuses _ _ refl;
  draw = λ b d room. refuses _ _ refl;
  start = λ b s. refuses _ _ refl;
  campaign_draw = λ b d s room. refuses _ _ refl;
  walk_first = λ r c d g room. refuses _ _ refl;
  walk_next = λ r c d g n room. refuses _ _ refl;
  pool = λ r c d g e h numbers room. refuses _ _ refl;
  reason = λ r c d g k room. refuses _ _ refl;
  array = λ b k one room. refuses _ _ refl;
}

-- the first four refusals of a call come before all that it tests besides
pub below_zero_refused : BelowZeroRefused
unfolding round_refusal plan_refusal reply_refusal pool_refusal table_refusal pooling_refusal
below_zero_refused = record {
  rounding = λ r c d g room z. due_first (table_tests r c d g) (refuse Buffer (ltb room (r * c)) ∷ []) LargeCell (below_zero r c d g z);
  plan = λ r c d g room z. due_first (table_tests r c d g) (refuse Buffer (ltb room (length (plan_bytes r c d g))) ∷ []) LargeCell (below_zero r c d g z);
  reason = λ r c d g k room z.
      due_first (reason_tests r c d g k) (room_tests room) LargeCell
      (due_first (table_tests r c d g) (refuse Array (not (up_to (length (plan_of r c d g).arrays) k)) ∷ []) LargeCell (below_zero r c d g z));
  pool = λ r c d g e h numbers room z.
      due_first (pooling_tests r c d g e h) (refuse Buffer (ltb numbers 1 || ltb room (r * c)) ∷ []) LargeCell (either_below_zero r c d g e h z);
  walk_first = λ r c d g room hr hc z. first_below_zero r c d g hr hc z room;
  walk_next = λ r c d g n room hr hc z. next_below_zero r c d g hr hc z n room;
}
