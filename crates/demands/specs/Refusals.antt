-- Which refusal a call returns (specification, "Refusals"), for each call's list of conditions. Assumes nothing.
use Rattle.std.specs.Prelude.{◌≡◌, true, ℕ, ◌≤◌, ℤ, Option, Some, None}
use mathlib.Core.List.{List, Memᴰ as Member}
use Rattle.refusals.specs.Numbers.{number_of}
use Rattle.refusals.specs.Places.{order, order_on_plan, place_in}
use Rattle.refusals.specs.declared.Refusal.{Refusal}
use Rattle.refusals.specs.declared.Refusal.TheVariants.{LargeCell}
use Rattle.refusals.specs.Due.{Test, refuse, none_applies}
use Rattle.table.specs.Check.{BelowZero}
use Rattle.rounding.specs.Call.{round_tests, round_refusal}
use Rattle.corrections.specs.Call as corrections
use Rattle.walk.specs.Call.{max_side, first_tests, first_refusal, next_tests, next_refusal}
use Rattle.plan.specs.Call.{plan_tests, plan_refusal}
use Rattle.opening.specs.Open.{open_tests, open_refusal, part_tests, part_refusal}
use Rattle.drawing.specs.Draw.{draw_tests, draw_refusal}
use Rattle.plan_parts.specs.Array.{array_tests, array_refusal}
use Rattle.reason_numbers.specs.Numbers.{reply_tests, reply_refusal}
use Rattle.pool.specs.Pool.{EitherBelowZero, pool_tests, pool_refusal}
use Rattle.records.specs.Record.{CampaignRecord}
use Rattle.campaign_start.specs.Start.{start_tests, start_refusal}
use Rattle.campaign_draw.specs.Draw.{campaign_tests, campaign_refusal}

-- of the conditions of a list, that of x holds, and no condition whose refusal ranks lower does
pub record Lowest (rank : Refusal → ℕ) (l : List Test) (x : Refusal) : Type 0 where
  pub applies : Member (refuse x true) l
  pub lowest : (y : Refusal) → Member (refuse y true) l → rank x ≤ rank y

-- what is returned applies, and nothing that ranks lower does; where nothing is returned, no condition holds
pub record Refuses (rank : Refusal → ℕ) (l : List Test) (o : Option Refusal) : Type 0 where
  pub refused : (x : Refusal) → o ≡ Some x → Lowest rank l x
  pub accepted : o ≡ None → none_applies l ≡ true

-- so of every call, whatever it is lent: the lowest number
pub record EachRefuses : Type 0 where
  pub rounding : (r c d : ℕ) (g : List ℕ) (room : ℕ) → Refuses number_of (round_tests r c d g room) (round_refusal r c d g room)
  pub corrections : (r c d : ℕ) (g : List ℤ) (room : ℕ) → Refuses number_of (corrections.round_tests r c d g room) (corrections.round_refusal r c d g room)
  pub plan : (r c d : ℕ) (g : List ℕ) (room : ℕ) → Refuses number_of (plan_tests r c d g room) (plan_refusal r c d g room)
  pub opening : (b : List ℕ) → Refuses number_of (open_tests b) (open_refusal b)
  -- the sizes, the table and the variances of a plan, which need a number of places
  pub parts : (b : List ℕ) (need room : ℕ) → Refuses number_of (part_tests b need room) (part_refusal b need room)
  pub draw : (b : List ℕ) (d room : ℕ) → Refuses number_of (draw_tests b d room) (draw_refusal b d room)
  pub start : (b : List ℕ) (s : CampaignRecord) → Refuses number_of (start_tests b s) (start_refusal b s)
  -- the others have refusals that came later, so the lowest place in the order of all
  pub campaign_draw : (b : List ℕ) (d : ℕ) (s : CampaignRecord) (room : ℕ) → Refuses (place_in order) (campaign_tests b d s room) (campaign_refusal b d s room)
  pub walk_first : (r c d : ℕ) (g : List ℕ) (room : ℕ) → Refuses (place_in order) (first_tests r c d g room) (first_refusal r c d g room)
  pub walk_next : (r c d : ℕ) (g n : List ℕ) (room : ℕ) → Refuses (place_in order) (next_tests r c d g n room) (next_refusal r c d g n room)
  pub pool : (r c d : ℕ) (g : List ℕ) (e : ℕ) (h : List ℕ) (numbers room : ℕ)
      → Refuses (place_in order) (pool_tests r c d g e h numbers room) (pool_refusal r c d g e h numbers room)
  pub reason : (r c d : ℕ) (g : List ℕ) (k room : ℕ) → Refuses (place_in order) (reply_tests r c d g k room) (reply_refusal r c d g k room)
  pub array : (b : List ℕ) (k one room : ℕ) → Refuses (place_in order_on_plan) (array_tests b k one room) (array_refusal b k one room)

-- and a cell below zero, where none of 1 to 3 applies, is 4 in every call that takes a table and no correction sheet; in a walk, where 15 does not apply either
pub record BelowZeroRefused : Type 0 where
  pub rounding : (r c d : ℕ) (g : List ℕ) (room : ℕ) → BelowZero r c d g → round_refusal r c d g room ≡ Some LargeCell
  pub plan : (r c d : ℕ) (g : List ℕ) (room : ℕ) → BelowZero r c d g → plan_refusal r c d g room ≡ Some LargeCell
  pub reason : (r c d : ℕ) (g : List ℕ) (k room : ℕ) → BelowZero r c d g → reply_refusal r c d g k room ≡ Some LargeCell
  pub pool : (r c d : ℕ) (g : List ℕ) (e : ℕ) (h : List ℕ) (numbers room : ℕ) → EitherBelowZero r c d g e h
      → pool_refusal r c d g e h numbers room ≡ Some LargeCell
  pub walk_first : (r c d : ℕ) (g : List ℕ) (room : ℕ) → r ≤ max_side → c ≤ max_side → BelowZero r c d g → first_refusal r c d g room ≡ Some LargeCell
  pub walk_next : (r c d : ℕ) (g n : List ℕ) (room : ℕ) → r ≤ max_side → c ≤ max_side → BelowZero r c d g → next_refusal r c d g n room ≡ Some LargeCell
