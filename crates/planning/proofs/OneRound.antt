-- One round of the plan: from a remaining table over w to the next over the rest. Assumes nothing.
use mathlib.Core.Path.{◌≡◌, sym, ap, ◌∙◌}
use mathlib.Core.Bool.{true}
use mathlib.Core.List.{List, Memᴰ as Member}
use Prim.Native.Nat.{ℕ, ◌+◌, ◌-◌, ◌*◌, ◌/◌, ◌≤◌, ◌<◌}
use native.Mathlib.Decide.{dec_lt}
use native.Mathlib.Nat.{mul-zero}
use native.Mathlib.Omega.{arith}
use lib.ListN.{length, get_or, get_or-eq_default}
use lib.Dec.{eqb}
use Rattle.base.proofs.Sums.{list_lt}
use Rattle.table.specs.Table.{total, cell_places, entry_places}
use Rattle.table.specs.Whole.{gap, rounds_to}
use Rattle.table.specs.Clauses.{Shape}
use Rattle.base.proofs.Lists.{and_right, all_at_member}
use Rattle.table.proofs.Totals.{total_cell}
use Rattle.is_rounding.specs.Rounding.{two_ways, is_rounding}
use Rattle.table.proofs.Sizes.{shape_of}
use Rattle.first_rounding.proofs.Roundings.{rounding_length}
use Rattle.planning.specs.Rounds.{limit_of, weight_of, without, not_whole}
use Rattle.planning.proofs.Entries.{limit_low, limit_high, Left, left, gap_falls, gap_drops, count_low, count_high, next_low, next_high}
use Rattle.planning.proofs.Leasts.{least_le, Attained, attained_in}
use Rattle.planning.proofs.GridMembers.{cell_in_lem, grand_in}
use Rattle.planning.proofs.Losses.{without_length, without_total}

module _ {r c : ℕ} {g : List ℕ} (s : Shape r c g) (w : ℕ) (wp : 0 < w) (n : List ℕ) (h : is_rounding (two_ways r c) w g n ≡ true) where
  pub entry_rounds : {x : List ℕ} → Member x (entry_places r c) → rounds_to w (total g x) (total n x) ≡ true
  unfolding is_rounding
  entry_rounds = all_at_member (λ x. rounds_to w (total g x) (total n x)) (entry_places r c) (and_right (eqb (length n) (r * c)) _ h)

  -- the weight
  abbrev y : ℕ
  y = weight_of r c w g n

  pub attains : Attained (λ x. limit_of w (total g x) (total n x)) (entry_places r c) y
  unfolding weight_of
  attains = attained_in (λ x. limit_of w (total g x) (total n x)) (entry_places r c) (grand_in r c)

  pub weight_most : {x : List ℕ} → Member x (entry_places r c) → y ≤ limit_of w (total g x) (total n x)
  unfolding weight_of
  weight_most = least_le (λ x. limit_of w (total g x) (total n x)) (entry_places r c)

  pub weight_low : 0 < y
  weight_low = omega (arith, attains.is, limit_low w wp _ _ (entry_rounds attains.member))

  pub weight_high : y ≤ w
  weight_high = omega (arith, attains.is, limit_high w wp _ _ (entry_rounds attains.member))

  abbrev v : ℕ
  v = w - y

  split : w ≡ y + v
  split = omega (arith, weight_high)

  left_of : {x : List ℕ} (m : Member x (entry_places r c)) → Left w wp (total g x) (total n x) (entry_rounds m) y v
  left_of m = left w wp _ _ (entry_rounds m) y v split (weight_most m)

  enough : (i : ℕ) → y * get_or n i 0 ≤ get_or g i 0
  enough i = go (dec_lt i (r * c))
    where
      go : Dec (i < r * c) → y * get_or n i 0 ≤ get_or g i 0
      go (yes l) =
          let m = cell_in_lem r c i l in
          let a : y * total n (cell_places i) ≡ y * get_or n i 0 = ap (λ (x : ℕ). y * x) (total_cell n i) in
          omega (arith, (left_of m).is, total_cell g i)
      go (no l) =
          let z : get_or n i 0 ≡ 0 = get_or-eq_default n 0 {n = i} (omega (arith, rounding_length s w n h)) in
          let a : y * get_or n i 0 ≡ 0 = ap (λ (x : ℕ). y * x) z ∙ mul-zero y in
          omega arith

  unfoldable pub rest : List ℕ
  rest = without y n g

  lengths : length n ≡ length g
  lengths = rounding_length s w n h ∙ sym s.cells

  pub rest_shape : Shape r c rest
  unfolding rest
  rest_shape = shape_of s rest (without_length y n g lengths ∙ s.cells)

  -- for any places, what is left and what is taken
  pub rest_total : (x : List ℕ) → total rest x + y * total n x ≡ total g x
  unfolding rest
  rest_total = without_total y n g lengths enough

  rest_entry : {x : List ℕ} (m : Member x (entry_places r c)) → total rest x ≡ total g x / w * v + (left_of m).over
  rest_entry {x} m = omega (arith, rest_total x, (left_of m).is)

  -- Ernst's bounds, for any entry
  module _ {x : List ℕ} (m : Member x (entry_places r c)) (lo hi : ℕ) (low : lo * w ≤ total g x) (high : total g x ≤ hi * w) where
    pub rest_low : lo * v ≤ total rest x
    rest_low = omega (arith, rest_entry m, next_low w wp _ _ (entry_rounds m) lo hi low high (left_of m))

    pub rest_high : total rest x ≤ hi * v
    rest_high = omega (arith, rest_entry m, next_high w wp _ _ (entry_rounds m) lo hi low high (left_of m))

    pub array_low : lo ≤ total n x
    array_low = count_low w wp _ _ (entry_rounds m) lo hi low high

    pub array_high : total n x ≤ hi
    array_high = count_high w wp _ _ (entry_rounds m) lo hi low high

  -- fewer entries are not whole, unless this round is the last
  pub fewer : 0 < v → not_whole r c v rest < not_whole r c w g
  unfolding not_whole
  fewer vp = list_lt (λ x. gap v (total rest x)) (λ x. gap w (total g x)) (entry_places r c)
      (λ x m. gap_falls w wp _ _ (entry_rounds m) vp (left_of m) (rest_entry m))
      attains.at attains.member
      (gap_drops w wp _ _ (entry_rounds attains.member) vp (left_of attains.member) (rest_entry attains.member) attains.is split)
