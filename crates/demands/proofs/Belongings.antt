-- Every number below the sum of the weights belongs to one array. Assumes nothing.
use mathlib.Core.Path.{◌≡◌, ap, ◌∙◌, subst}
use mathlib.Core.List.{List, [], ◌∷◌, map}
use Prim.Native.Nat.{ℕ, suc, ◌+◌, ◌-◌, ◌<◌, ◌≤◌}
use native.Mathlib.Nat.{not-suc-le-zero}
use native.Mathlib.Numerals.{add-one}
use native.Mathlib.Decide.{dec_lt}
use native.Mathlib.Omega.{arith}
use Rattle.base.specs.Lists.{sum, sum_to}
use Rattle.base.proofs.Sums.{sum_add_range}
use Rattle.weighted_arrays.specs.Plan.{Weighted, array_at, weights_before, Belongs}
use Rattle.weighted_arrays.proofs.Belonging.{before_front, array_for_lem}
use Rattle.demands.specs.Numbers.{Belonging}

-- the place of a number's array
record Place (l : List Weighted) (d : ℕ) : Type 0 where
  array : ℕ
  belongs : Belongs l d array

-- one array later, behind a weight
later : (a : Weighted) (l : List Weighted) (d : ℕ) → a.weight ≤ d → Place l (d - a.weight) → Place (a ∷ l) d
later a l d h rest =
    let b = rest.belongs in
    let before = before_front a l rest.array in
    let with = ap (weights_before (a ∷ l)) (add-one (suc rest.array)) ∙ before_front a l (suc rest.array) in
    record {
      array = suc rest.array;
      belongs = record { there = omega (arith, b.there); before = omega (arith, before, b.before); with = omega (arith, with, ap (weights_before l) (add-one rest.array), b.with) };
    }

place : (l : List Weighted) (d : ℕ) → d < sum (map (λ a. a.weight) l) → Place l d
unfolding sum sum_to
place [] d h = absurd (not-suc-le-zero h)
place (a ∷ l) d h = go (dec_lt d a.weight) (place l (d - a.weight))
  where
    go : Dec (d < a.weight) → (d - a.weight < sum (map (λ x. x.weight) l) → Place l (d - a.weight)) → Place (a ∷ l) d
    go (yes b) next = record { array = 0; belongs = record { there = omega arith; before = omega arith; with = omega (arith, before_front a l 0) } }
    go (no n) next = later a l d (omega arith) (next (omega arith))

-- more weights add up to more
before_more : (l : List Weighted) (j k : ℕ) → j ≤ k → weights_before l j ≤ weights_before l k
before_more l j k h =
    let m : k ≡ j + (k - j) = omega arith in
    rw m (omega (arith, sum_add_range j (k - j) (λ i. (array_at l i).weight)))

-- so a number belongs to one array only
one_array : (l : List Weighted) (d j k : ℕ) → Belongs l d j → Belongs l d k → k ≡ j
one_array l d j k b c = go (dec_lt j k) (dec_lt k j)
  where
    go : Dec (j < k) → Dec (k < j) → k ≡ j
    go (yes h) q = absurd (omega (arith, before_more l (j + 1) k (omega arith), b.with, c.before))
    go (no n) (yes h) = absurd (omega (arith, before_more l (k + 1) j (omega arith), c.with, b.before))
    go (no n) (no m) = omega arith

pub belonging : (l : List Weighted) (d : ℕ) → d < sum (map (λ a. a.weight) l) → Belonging l d
belonging l d h =
    let p = place l d h in
    let b = p.belongs in
    record {
      array = p.array;
      belongs = b;
      only = λ k c. one_array l d p.array k b c;
      counts = array_for_lem l d p.array b.there b.before (subst (λ (k : ℕ). d < weights_before l k) (add-one p.array) b.with);
    }
