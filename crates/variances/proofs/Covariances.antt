-- Laws on covariances and variances: of any plan, and of a plan that opens. Assumes nothing.
use mathlib.Core.Path.{◌≡◌, refl, sym, ap, ap₂, ◌∙◌}
use mathlib.Core.Bool.{true}
use mathlib.Core.List.Memᴰ.{head as here}
use mathlib.Core.List.Memᴰ.{tail as there}
use mathlib.Core.List.{List, [], ◌∷◌, map, Memᴰ as Member}
use Prim.Native.Nat.{ℕ, ◌+◌, ◌-◌, ◌*◌, ◌/◌, ◌%◌, ◌<◌, ◌≤◌}
use native.Mathlib.Decide.{ℕ_discrete}
use native.Mathlib.Nat.{mul_comm, mul-add, add-mul, mul-zero, mul-one, one-mul, mul_assoc, mul_left_comm, div-add-mod', mod-lt}
use native.Mathlib.Omega.{arith}
use lib.IntN.{pos, sub_ℕ, ◌+ℤ◌}
use lib.ListN.{get_or}
use Rattle.base.specs.Lists.{sum, sumℤ}
use Rattle.base.proofs.Lists.{all_at_member}
use Rattle.base.proofs.Sums.{list_add, list_ext, list_zero}
use Rattle.table.specs.Table.{total, cell_places, row_places}
use Rattle.table.specs.Whole.{rounds_to}
use Rattle.table.proofs.Roundings.{rounds_low, rounds_high, gap_le}
use Rattle.table.proofs.Totals.{total_cell}
use Rattle.table.proofs.EntryTests.{entries_each}
use Rattle.weighted_arrays.specs.Plan.{Weighted, Plan, cell_count}
use Rattle.form.specs.Form.{decode}
use Rattle.form.proofs.Layouts.{laid}
use Rattle.opening.specs.Open.{held_to, held, Opens}
use Rattle.opening.proofs.Opening.{opens_layout}
use Rattle.opening.proofs.Sound.{Sound, sound, weighted_places}
use Rattle.covariances.specs.Covariance.{at, over, weighted_products, covariance, cell_covariance}
use Rattle.covariances.proofs.Counts.{cell_entry}
use Rattle.variances.specs.Variance.{variance, over_pairs, rounding_variance}
use Rattle.base.proofs.Differences.{sub_above, sub_none, sub_add, sums_same}

-- the order does not matter
pub symmetric : (p : Plan) (x y : List ℕ → ℕ) → covariance p x y ≡ covariance p y x
unfolding covariance
symmetric p x y = ap₂ sub_ℕ
    (ap (λ (n : ℕ). p.denominator * n) (list_ext _ _ p.arrays (λ a m. ap (λ (n : ℕ). a.weight * n) (mul_comm (x a.counts) (y a.counts)))))
    (mul_comm (x p.cells) (y p.cells))

module _ (p : Plan) (x : List ℕ → ℕ) where
  -- the covariance with nothing, and with a sum
  with_none : covariance p x (over []) ≡ pos 0
  unfolding covariance total sum
  with_none =
      let none : weighted_products p.arrays x (over []) ≡ 0 = list_ext _ (λ a. 0) p.arrays (λ a m. omega (arith, mul-zero a.weight, mul-zero (x a.counts), ap (λ (n : ℕ). a.weight * n) (mul-zero (x a.counts)))) ∙ list_zero p.arrays in
      ap₂ sub_ℕ (ap (λ (n : ℕ). p.denominator * n) none ∙ mul-zero p.denominator) (mul-zero (x p.cells)) ∙ sub_none 0

  with_more : (k : ℕ) (s : List ℕ) → covariance p x (over (k ∷ s)) ≡ covariance p x (at k) +ℤ covariance p x (over s)
  unfolding covariance total sum
  with_more k s =
      let products : weighted_products p.arrays x (over (k ∷ s)) ≡ weighted_products p.arrays x (at k) + weighted_products p.arrays x (over s) =
      list_ext _ _ p.arrays (λ a m. ap (λ (n : ℕ). a.weight * n) (mul-add (x a.counts) _ _) ∙ mul-add a.weight _ _) ∙ list_add _ _ p.arrays in
      ap₂ sub_ℕ (ap (λ (n : ℕ). p.denominator * n) products ∙ mul-add p.denominator _ _) (mul-add (x p.cells) _ _)
      ∙ sym (sub_add (p.denominator * weighted_products p.arrays x (at k)) _ _ _)

  -- so it is the sum of the covariances with the places
  pub with_places : (s : List ℕ) → covariance p x (over s) ≡ sumℤ (map (λ k. covariance p x (at k)) s)
  unfolding sumℤ
  with_places [] = with_none
  with_places (k ∷ s) = with_more k s ∙ ap (λ z. covariance p x (at k) +ℤ z) (with_places s)

-- the variance of a total is the sum of the covariances over all ordered pairs
pub variance_pairs : (p : Plan) (s : List ℕ) → variance p s ≡ over_pairs p s
variance_pairs p s =
    with_places p (over s) s
    ∙ sums_same _ _ (λ k. symmetric p (over s) (at k) ∙ with_places p (at k) s) s

-- what looks alike in every list has one covariance
pub covariance_same : (p : Plan) (x y : List ℕ → ℕ) → ((n : List ℕ) → x n ≡ y n) → covariance p x x ≡ covariance p y y
unfolding covariance
covariance_same p x y e = ap₂ sub_ℕ
    (ap (λ (n : ℕ). p.denominator * n) (list_ext _ _ p.arrays (λ a m. ap (λ (n : ℕ). a.weight * n) (ap₂ ◌*◌ (e a.counts) (e a.counts)))))
    (ap₂ ◌*◌ (e p.cells) (e p.cells))

-- a count that is q or q + 1: its square is linear in it
near_square : (q n : ℕ) → q ≤ n → n ≤ q + 1 → n * n + q * (q + 1) ≡ (q + (q + 1)) * n
near_square q n l h = go (ℕ_discrete n q)
  where
    go : Dec (n ≡ q) → n * n + q * (q + 1) ≡ (q + (q + 1)) * n
    go (yes e) = rw e (sym (mul-add q q (q + 1)) ∙ mul_comm q (q + (q + 1)))
    go (no d) = let e : n ≡ q + 1 = omega arith in rw e (omega (arith, add-mul q (q + 1) (q + 1)))

-- so over arrays with such counts the squares times the weights are linear in the counts times the weights
near_squares : (l : List Weighted) (t : List ℕ → ℕ) (q : ℕ) → ((a : Weighted) → Member a l → (q ≤ t a.counts) × (t a.counts ≤ q + 1))
    → weighted_products l t t + q * (q + 1) * sum (map (λ a. a.weight) l) ≡ (q + (q + 1)) * sum (map (λ a. a.weight * t a.counts) l)
unfolding sum
near_squares [] t q h = omega (arith, mul-zero (q * (q + 1)), mul-zero (q + (q + 1)))
near_squares (a ∷ l) t q h =
    let k = q + (q + 1) in
    let c = q * (q + 1) in
    let n = t a.counts in
    let w = a.weight in
    let b = h a (here refl) in
    let one : w * (n * n) + c * w ≡ k * (w * n) =
    ap (λ (x : ℕ). w * (n * n) + x) (mul_comm c w) ∙ sym (mul-add w (n * n) c) ∙ ap (λ (x : ℕ). w * x) (near_square q n b.0 b.1) ∙ mul_left_comm w k n in
    omega (
      arith,
      one,
      near_squares l t q (λ x m. h x (there m)),
      mul-add c w (sum (map (λ x. x.weight) l)),
      mul-add k (w * n) (sum (map (λ x. x.weight * t x.counts) l)),
    )

-- with D = f + g, a table's number q·D + f and its squares S
from_squares : (q f g s : ℕ) → s + q * (q + 1) * (f + g) ≡ (q + (q + 1)) * (q * (f + g) + f) → (f + g) * s ≡ (q * (f + g) + f) * (q * (f + g) + f) + f * g
from_squares q f g s e =
    let d = f + g in
    let x = q * d in
    let left : d * (s + q * (q + 1) * d) ≡ d * s + (x * x + x * d) =
    mul-add d s _ ∙ ap (λ (n : ℕ). d * s + n) (ap (λ (n : ℕ). d * n) (mul_assoc q (q + 1) d) ∙ sym (mul_assoc d q _) ∙ ap₂ ◌*◌ (mul_comm d q) (add-mul q 1 d ∙ ap (λ (n : ℕ). x + n) (one-mul d)) ∙ mul-add x x d) in
    let right : d * ((q + (q + 1)) * (x + f)) ≡ (x + (x + d)) * (x + f) =
    sym (mul_assoc d _ _) ∙ ap (λ (n : ℕ). n * (x + f)) (mul-add d q (q + 1) ∙ ap₂ ◌+◌ (mul_comm d q) (mul-add d q 1 ∙ ap₂ ◌+◌ (mul_comm d q) (mul-one d))) in
    omega (
      arith,
      left,
      right,
      ap (λ (n : ℕ). d * n) e,
      add-mul x (x + d) (x + f),
      add-mul x d (x + f),
      add-mul x f (x + f),
      mul-add x x f,
      mul-add d x f,
      mul-add f x f,
      mul_comm f x,
      mul_comm d x,
      add-mul f g f,
      mul_comm g f,
    )

-- a plan that opens
module _ {p : Plan} (o : Sound p) (some : 0 < p.denominator) where
  abbrev d : ℕ
  d = p.denominator

  -- the variance of a total that each array rounds down or up is f·(D - f), f the remainder of the table's total by D
  pub rounded_variance : (s : List ℕ) → ((a : Weighted) → Member a p.arrays → rounds_to d (total p.cells s) (total a.counts s) ≡ true)
      → variance p s ≡ pos (rounding_variance d (total p.cells s))
  unfolding covariance
  rounded_variance s h =
      let e = total p.cells s in
      let q = e / d in
      let f = e % d in
      let g = d - f in
      let whole : e ≡ q * d + f = sym (div-add-mod' e d) in
      let parts : d ≡ f + g = omega (arith, mod-lt e some) in
      let squares = near_squares p.arrays (over s) q
      (λ a m. (rounds_low d e _ (h a m), omega (arith, rounds_high d e _ (h a m), gap_le d e))) in
      let t = weighted_products p.arrays (over s) (over s) in
      let linear : t + q * (q + 1) * (f + g) ≡ (q + (q + 1)) * (q * (f + g) + f) =
      ap (λ (n : ℕ). t + q * (q + 1) * n) (sym (o.meets.weights ∙ parts)) ∙ squares
      ∙ ap (λ (n : ℕ). (q + (q + 1)) * n) (weighted_places o s ∙ whole ∙ ap (λ (n : ℕ). q * n + f) parts) in
      let is : d * t ≡ e * e + f * g =
      ap (λ (n : ℕ). n * t) parts ∙ from_squares q f g t linear ∙ ap (λ (n : ℕ). n * n + f * g) (sym (whole ∙ ap (λ (n : ℕ). q * n + f) parts)) in
      sub_above (d * t) (e * e) (omega arith) ∙ ap pos (omega arith)

  -- as of every entry that the plan is held to
  pub entry_variance : (s : List ℕ) → Member s (held_to p.rows p.columns) → variance p s ≡ pos (rounding_variance d (total p.cells s))
  entry_variance s m = rounded_variance s (λ a k. all_at_member _ _ (all_at_member (held p) _ o.meets.rounded k) m)

  -- and of every cell
  pub cell_variance_is : (i : ℕ) → i < cell_count p → cell_covariance p i i ≡ pos (rounding_variance d (get_or p.cells i 0))
  cell_variance_is i h =
      covariance_same p (at i) (over (cell_places i)) (λ n. sym (total_cell n i))
      ∙ rounded_variance (cell_places i) (λ a m. cell_entry o some a m i h)
      ∙ ap (λ (e : ℕ). pos (rounding_variance d e)) (total_cell p.cells i)

  -- so the covariances over all ordered pairs of a row's cells add up to that
  pub row_pairs : (i : ℕ) → i < p.rows → over_pairs p (row_places p.columns i) ≡ pos (rounding_variance d (total p.cells (row_places p.columns i)))
  row_pairs i h =
      let s = row_places p.columns i in
      sym (variance_pairs p s) ∙ rounded_variance s (λ a m. (entries_each p.rows p.columns _ (all_at_member (held p) _ o.meets.rounded m)).rows i h)

-- of a plan that opens
module _ (b : List ℕ) (h : Opens b) where
  opened_some : 0 < (decode b).denominator
  unfolding decode
  opened_some = (laid b (opens_layout b h)).some_denominator

  pub opened_variance : (s : List ℕ) → Member s (held_to (decode b).rows (decode b).columns) → variance (decode b) s ≡ pos (rounding_variance (decode b).denominator (total (decode b).cells s))
  opened_variance = entry_variance (sound b h) opened_some

  pub opened_cell : (k : ℕ) → k < cell_count (decode b) → cell_covariance (decode b) k k ≡ pos (rounding_variance (decode b).denominator (get_or (decode b).cells k 0))
  opened_cell = cell_variance_is (sound b h) opened_some

  pub opened_row : (i : ℕ) → i < (decode b).rows
      → over_pairs (decode b) (row_places (decode b).columns i) ≡ pos (rounding_variance (decode b).denominator (total (decode b).cells (row_places (decode b).columns i)))
  opened_row = row_pairs (sound b h) opened_some
