-- The array that belongs to a draw number, by the weights before it and with it. Assumes nothing.
use mathlib.Core.Path.{◌≡◌, refl}
use mathlib.Core.List.{List, [], ◌∷◌}
use Prim.Native.Nat.{ℕ, zero, suc, ◌+◌, ◌-◌, ◌<◌, ◌≤◌}
use native.Mathlib.Nat.{not-suc-le-zero, le_of_suc-le-suc}
use native.Mathlib.Omega.{arith}
use lib.ListN.{length}
use borrow.Author.Tests.{lt-ltb, le-ltb}
use Rattle.base.specs.Lists.{sum_to}
use Rattle.base.proofs.Sums.{sum_front}
use Rattle.weighted_arrays.specs.Plan.{Weighted, array_at, array_for, weights_before}

pub before_front : (a : Weighted) (l : List Weighted) (k : ℕ) → weights_before (a ∷ l) (suc k) ≡ a.weight + weights_before l k
before_front a l k = sum_front k (λ j. (array_at (a ∷ l) j).weight)

-- "the weights before k add up to at most d, and with k to more than d"
pub array_for_lem : (l : List Weighted) (d k : ℕ) → k < length l → weights_before l k ≤ d → d < weights_before l (suc k) → array_for l d ≡ (array_at l k).counts
unfolding array_for sum_to
array_for_lem [] d k h a b = absurd (not-suc-le-zero h)
array_for_lem (x ∷ l) d zero h a b = let c : d < x.weight = omega (arith, before_front x l 0) in rw (lt-ltb d x.weight c) refl
array_for_lem (x ∷ l) d (suc k) h a b =
    let below : x.weight ≤ d = omega (arith, before_front x l k) in
    rw (le-ltb d x.weight below)
    (array_for_lem l (d - x.weight) k (le_of_suc-le-suc h) (omega (arith, before_front x l k)) (omega (arith, before_front x l (suc k))))
