-- The array that belongs to each draw number, sums over all draw numbers, and what an accepted draw writes into the record: it stays within them. Assumes nothing.
use mathlib.Core.Path.{◌≡◌, refl, sym, ap, ap₂, ◌∙◌}
use mathlib.Core.List.Memᴰ.{head as here}
use mathlib.Core.List.Memᴰ.{tail as there}
use mathlib.Core.List.{List, [], ◌∷◌, map, Memᴰ as Member}
use Prim.Native.Nat.{ℕ, ◌+◌, ◌-◌, ◌*◌, ◌<◌, ◌≤◌, zero, suc}
use native.Mathlib.Nat.{not-suc-le-zero, add-sub_cancel_left}
use native.Mathlib.Omega.{arith}
use lib.ListN.{length, get_or}
use lib.Dec.{ltb}
use borrow.Author.Tests.{lt-ltb, le-ltb, ltb-false}
use Rattle.base.specs.Lists.{sum, sum_to}
use Rattle.table.specs.Table.{total}
use Rattle.base.proofs.Sums.{sum_ext, sum_add_range, sum_same, sum_add, sum_term}
use Rattle.weighted_arrays.specs.Plan.{Weighted, Plan, cell_count, array_for}
use Rattle.opening.specs.Open.{held_to}
use Rattle.bits.specs.Bits.{bit_of}
use Rattle.records.specs.Record.{taken_sum}
use Rattle.base.proofs.Tests.{by_test}
use Rattle.table.proofs.Totals.{total_one}
use Rattle.opening.proofs.Sound.{Sound, Between, entry_between_lem, weighted_places}
use Rattle.bits.proofs.Bits.{bit_le}

-- the array that belongs to a number below the sum of the weights is one of the list
belongs : (P : List ℕ → Type 0) (l : List Weighted) (d : ℕ) → d < sum (map (λ a. a.weight) l)
    → ((a : Weighted) → Member a l → P a.counts) → P (array_for l d)
unfolding sum array_for
belongs P [] d h every = absurd (not-suc-le-zero h)
belongs P (a ∷ l) d h every = by_test P (ltb d a.weight)
    (λ e. every a (here refl))
    (λ e. belongs P l (d - a.weight) (omega (arith, ltb-false d a.weight e)) (λ x m. every x (there m)))

-- the array that belongs to a number of an opened plan
module _ {p : Plan} (o : Sound p) {d : ℕ} (h : d < p.denominator) where
  below : d < sum (map (λ a. a.weight) p.arrays)
  below = rw o.meets.weights h

  pub array_length : length (array_for p.arrays d) ≡ cell_count p
  array_length = belongs (λ (a : List ℕ). length a ≡ cell_count p) p.arrays d below o.counts

  pub array_entry : (s : List ℕ) → Member s (held_to p.rows p.columns)
      → Between p.denominator (total p.cells s) (total (array_for p.arrays d) s)
  array_entry s m = belongs (λ (a : List ℕ). Between p.denominator (total p.cells s) (total a s)) p.arrays d below (λ a k. entry_between_lem o a k s m)

-- over all draw numbers each array stands as often as its weight says
pub numbers_sum : (f : List ℕ → ℕ) (l : List Weighted)
    → sum_to (sum (map (λ a. a.weight) l)) (λ d. f (array_for l d)) ≡ sum (map (λ a. a.weight * f a.counts) l)
unfolding sum array_for sum_to
numbers_sum f [] = refl
numbers_sum f (a ∷ l) =
    sum_add_range a.weight _ _
    ∙ ap₂ ◌+◌
    (sum_ext a.weight _ _ (λ d h. rw (lt-ltb d a.weight h)) ∙ sum_same a.weight (f a.counts))
    (sum_ext (sum (map (λ x. x.weight) l)) _ _ (λ j h. rw (le-ltb (a.weight + j) a.weight (omega arith), add-sub_cancel_left)) ∙ numbers_sum f l)

-- over all draw numbers the arrays add up to the table, for any places
pub planned_sum_lem : {p : Plan} → Sound p → (s : List ℕ) → sum_to p.denominator (λ d. total (array_for p.arrays d) s) ≡ total p.cells s
planned_sum_lem {p} o s =
    ap (λ (n : ℕ). sum_to n (λ d. total (array_for p.arrays d) s)) (sym o.meets.weights)
    ∙ numbers_sum (λ (a : List ℕ). total a s) p.arrays
    ∙ weighted_places o s

parts : (t x : ℕ) → t ≤ 1 → x ≡ t * x + (1 - t) * x
parts zero x h = omega arith
parts (suc zero) x h = omega arith
parts (suc (suc t)) x h = absurd (omega arith)

module _ (b : List ℕ) {d n : ℕ} (h : d < n) (z : bit_of b d ≡ 0) where
  -- the numbers at the set bits, and the one at a bit that is not set, come to at most all of them
  bits_room : (x : ℕ → ℕ) → sum_to n (λ j. bit_of b j * x j) + x d ≤ sum_to n x
  bits_room x =
      let rest : ℕ → ℕ = λ j. (1 - bit_of b j) * x j in
      let all : sum_to n x ≡ sum_to n (λ j. bit_of b j * x j) + sum_to n rest = sum_ext n _ _ (λ j l. parts (bit_of b j) (x j) (bit_le b j)) ∙ sum_add n _ rest in
      let here : rest d ≡ x d = rw z (omega arith) in
      omega (arith, sum_term n rest d h)

  -- so the count stays at most D
  pub count_room : sum_to n (bit_of b) + 1 ≤ n
  count_room = omega (arith, bits_room (λ j. 1), sum_ext n (bit_of b) (λ j. bit_of b j * 1) (λ j l. omega arith), sum_same n 1)

-- and the tally at most the table's cell
pub tally_room : {p : Plan} → Sound p → (b : List ℕ) {d : ℕ} → d < p.denominator → bit_of b d ≡ 0
    → (i : ℕ) → taken_sum p b i + get_or (array_for p.arrays d) i 0 ≤ get_or p.cells i 0
tally_room {p} o b {d} h z i =
    let all : sum_to p.denominator (λ j. get_or (array_for p.arrays j) i 0) ≡ get_or p.cells i 0 =
    sum_ext p.denominator _ _ (λ j l. sym (total_one _ i)) ∙ planned_sum_lem o (i ∷ []) ∙ total_one p.cells i in
    omega (arith, bits_room b h z (λ j. get_or (array_for p.arrays j) i 0))
