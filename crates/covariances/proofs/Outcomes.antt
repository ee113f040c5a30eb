-- From the lifted covariances of all pairs to the smallest and the largest. Assumes nothing.
use mathlib.Core.Path.{◌≡◌, refl, sym, ap, ap₂, ◌∙◌}
use mathlib.Core.Bool.{true, cond}
use mathlib.Core.List.{List, [], ◌∷◌, ◌++◌, map, foldl, map-append}
use Prim.Native.Nat.{ℕ, zero, suc, ◌-◌, ◌*◌, ◌<◌, ◌≤◌, min, max}
use native.Mathlib.Decide.{dec_lt}
use native.Mathlib.Nat.{min-eq_left, min-eq_right, max-eq_left, max-eq_right, min-le_left, max-le, le_trans, le_refl}
use native.Mathlib.Omega.{arith}
use lib.IntN.{ℤ, sub_ℕ}
use lib.Signed.{le_z}
use lib.ListN.{length, length-append}
use lib.Dec.{leb}
use borrow.Author.Tests.{le-leb, lt-leb, leb-true}
use Rattle.base.specs.Lists.{tabulate, join_to, all}
use Rattle.base.proofs.Lists.{and_left, and_right, and_both, all_append, all_tabulate, tabulate_ext, map_tabulate, length_tabulate}
use Rattle.form.specs.declared.Sizes.{Sizes}
use Rattle.weighted_arrays.specs.Plan.{Plan, cell_count}
use Rattle.form.specs.Form.{sizes_of, decode}
use Rattle.opening.specs.Open.{Opens}
use Rattle.opening.proofs.Opening.{opens_answer}
use Rattle.covariances.specs.declared.Extremes.{Extremes}
use Rattle.covariances.specs.Covariance.{at, weighted_products, covariance, cell_covariance, smaller, larger, extreme, covariances, lift}
use Rattle.covariances.specs.Clauses.{lifted_pair, lifted_pairs, ExtremesOf, widest, Extremal}
use Rattle.base.proofs.Differences.{sub_below, sub_above, sub_same}
use Rattle.covariances.proofs.Lifting.{scaled_small, product_small, lifted_small}
use Rattle.covariances.proofs.Products.{CellsReady, pair_liftable, cells_many}

-- what was lifted, as it was
abbrev low : ℕ → ℤ
low v = sub_ℕ v lift

-- lifting keeps the order
order : (c a b : ℕ) → le_z (sub_ℕ a c) (sub_ℕ b c) ≡ leb a b
order c a b = go (dec_lt a c) (dec_lt b c) (dec_lt b a)
  where
    go : Dec (a < c) → Dec (b < c) → Dec (b < a) → le_z (sub_ℕ a c) (sub_ℕ b c) ≡ leb a b
    go (yes h) (yes k) (yes l) = rw (sub_below a c h, sub_below b c k) (lt-leb (c - suc b) (c - suc a) (omega arith) ∙ sym (lt-leb a b l))
    go (yes h) (yes k) (no l) = rw (sub_below a c h, sub_below b c k) (le-leb (c - suc b) (c - suc a) (omega arith) ∙ sym (le-leb a b (omega arith)))
    go (yes h) (no k) l = rw (sub_below a c h, sub_above b c (omega arith)) (sym (le-leb a b (omega arith)))
    go (no h) (yes k) l = rw (sub_above a c (omega arith), sub_below b c k) (sym (lt-leb a b (omega arith)))
    go (no h) (no k) (yes l) = rw (sub_above a c (omega arith), sub_above b c (omega arith)) (lt-leb (a - c) (b - c) (omega arith) ∙ sym (lt-leb a b l))
    go (no h) (no k) (no l) = rw (sub_above a c (omega arith), sub_above b c (omega arith)) (le-leb (a - c) (b - c) (omega arith) ∙ sym (le-leb a b (omega arith)))

smaller_low : (a b : ℕ) → smaller (low a) (low b) ≡ low (min a b)
smaller_low a b = ap (λ t. cond t (low a) (low b)) (order lift a b) ∙ go (dec_lt b a)
  where
    go : Dec (b < a) → cond (leb a b) (low a) (low b) ≡ low (min a b)
    go (yes l) = let least : min a b ≡ b = min-eq_right (omega arith) in simp (lt-leb a b l) (ap low (sym least))
    go (no l) = let least : min a b ≡ a = min-eq_left (omega arith) in simp (le-leb a b (omega arith)) (ap low (sym least))

larger_low : (a b : ℕ) → larger (low a) (low b) ≡ low (max a b)
larger_low a b = ap (λ t. cond t (low b) (low a)) (order lift a b) ∙ go (dec_lt b a)
  where
    go : Dec (b < a) → cond (leb a b) (low b) (low a) ≡ low (max a b)
    go (yes l) = let most : max a b ≡ a = max-eq_left (omega arith) in simp (lt-leb a b l) (ap low (sym most))
    go (no l) = let most : max a b ≡ b = max-eq_right (omega arith) in simp (le-leb a b (omega arith)) (ap low (sym most))

-- numbers taken together before or after they are lifted
fold_low : (f : ℤ → ℤ → ℤ) (g : ℕ → ℕ → ℕ) → ((a b : ℕ) → f (low a) (low b) ≡ low (g a b)) → (m : ℕ) (l : List ℕ) → foldl f (low m) (map low l) ≡ low (foldl g m l)
fold_low f g e m [] = refl
fold_low f g e m (x ∷ l) = ap (λ z. foldl f z (map low l)) (e m x) ∙ fold_low f g e (g m x) l

extreme_low : (f : ℤ → ℤ → ℤ) (g : ℕ → ℕ → ℕ) → ((a b : ℕ) → f (low a) (low b) ≡ low (g a b)) → (start : ℕ) (l : List ℕ) → 1 ≤ length l
    → all (λ v. leb v (2 * lift)) l ≡ true → ((x : ℕ) → x ≤ 2 * lift → g start x ≡ x) → extreme f (map low l) ≡ low (foldl g start l)
unfolding extreme all
extreme_low f g e start [] h k s = absurd (omega arith)
extreme_low f g e start (x ∷ l) h k s =
    fold_low f g e x l ∙ ap (λ (m : ℕ). low (foldl g m l)) (sym (s x (leb-true x (2 * lift) (and_left _ _ k))))

-- what is taken together stays within the bounds
min_within : (m : ℕ) (l : List ℕ) → foldl min m l ≤ m
min_within m [] = le_refl m
min_within m (x ∷ l) = le_trans (min_within (min m x) l) (min-le_left m x)

max_within : (most m : ℕ) (l : List ℕ) → m ≤ most → all (λ v. leb v most) l ≡ true → foldl max m l ≤ most
unfolding all
max_within most m [] h k = h
max_within most m (x ∷ l) h k = max_within most (max m x) l (max-le h (leb-true x most (and_left _ _ k))) (and_right (leb x most) _ k)

module _ {s : Sizes} {b cells : List ℕ} (r : CellsReady s b cells) where
  abbrev p : Plan
  p = decode b

  pair_low : (i j : ℕ) → i < cell_count p → j < cell_count p → cell_covariance p i j ≡ low (lifted_pair p i j)
  unfolding covariance
  pair_low i j h k =
      let products = p.denominator * weighted_products p.arrays (at i) (at j) in
      let cells = at i p.cells * at j p.cells in
      sub_same products cells (lifted_pair p i j) lift (omega (arith, product_small (pair_liftable r i j h k)))

  -- the pairs of the first n cells
  pairs_low : (n : ℕ) → n ≤ cell_count p → join_to n (λ a. tabulate a (λ c. cell_covariance p a c)) ≡ map low (lifted_pairs p n)
  unfolding lifted_pairs join_to
  pairs_low zero h = refl
  pairs_low (suc n) h =
      ap₂ ◌++◌ (pairs_low n (omega arith)) (tabulate_ext n _ _ (λ c l. pair_low n c (omega arith) (omega arith)) ∙ sym (map_tabulate low n (lifted_pair p n)))
      ∙ sym (map-append low (join_to n (λ a. tabulate a (lifted_pair p a))) (tabulate n (lifted_pair p n)))

  pairs_within : (n : ℕ) → n ≤ cell_count p → all (λ v. leb v (2 * lift)) (lifted_pairs p n) ≡ true
  unfolding lifted_pairs join_to all
  pairs_within zero h = refl
  pairs_within (suc n) h =
      all_append _ (join_to n (λ a. tabulate a (lifted_pair p a))) (tabulate n (lifted_pair p n))
      ∙ and_both (pairs_within n (omega arith))
      (all_tabulate _ n (lifted_pair p n) (λ c l. le-leb _ _ (lifted_small (pair_liftable r n c (omega arith) (omega arith)))))

  pairs_some : (n : ℕ) → 2 ≤ n → 1 ≤ length (lifted_pairs p n)
  unfolding lifted_pairs join_to
  pairs_some zero h = absurd (omega arith)
  pairs_some (suc n) h = omega (arith, length-append (join_to n (λ a. tabulate a (lifted_pair p a))) (tabulate n (lifted_pair p n)), length_tabulate n (lifted_pair p n))

  all_low : covariances p ≡ map low (lifted_pairs p (cell_count p))
  unfolding covariances
  all_low = pairs_low (cell_count p) (le_refl (cell_count p))

  pub extremal : 2 ≤ length cells → {e : Extremes} → ExtremesOf widest (lifted_pairs p (cell_count p)) e → Extremal p e
  extremal h m =
      let n = cell_count p in
      let l = lifted_pairs p n in
      let some = pairs_some n (omega (arith, cells_many r)) in
      let within = pairs_within n (le_refl n) in
      record {
        smallest_is = ap low m.low ∙ sym (ap (extreme smaller) all_low ∙ extreme_low smaller min smaller_low (2 * lift) l some within (λ x h. min-eq_right h));
        largest_is = ap low m.high ∙ sym (ap (extreme larger) all_low ∙ extreme_low larger max larger_low 0 l some within (λ x h. max-eq_right {n = 0} (omega arith)));
        low_small = rw m.low (min_within (2 * lift) l);
        high_small = rw m.high (max_within (2 * lift) 0 l (omega arith) within);
      }

  -- one cell has no pair
  no_pairs : (n : ℕ) → n < 2 → join_to n (λ a. tabulate a (λ c. cell_covariance p a c)) ≡ []
  unfolding join_to tabulate
  no_pairs zero h = refl
  no_pairs (suc zero) h = refl
  no_pairs (suc (suc n)) h = absurd (omega arith)

  none_is : (f : ℤ → ℤ → ℤ) → cell_count p < 2 → low lift ≡ extreme f (covariances p)
  unfolding extreme covariances
  none_is f h = sub_above lift lift (le_refl lift) ∙ sym (ap (extreme f) (no_pairs (cell_count p) h))

  pub extremal_none : length cells < 2 → Extremal p (record { low = lift; high = lift })
  extremal_none h =
      let few : cell_count p < 2 = omega (arith, cells_many r) in
      record { smallest_is = none_is smaller few; largest_is = none_is larger few; low_small = omega arith; high_small = omega arith }

-- neither side of a covariance is large
pub opened_bounded : (b : List ℕ) → Opens b → (i j : ℕ) → i < cell_count (decode b) → j < cell_count (decode b)
    → ((decode b).denominator * weighted_products (decode b).arrays (at i) (at j) ≤ lift) × (at i (decode b).cells * at j (decode b).cells ≤ lift)
opened_bounded b o i j h k =
    let ready : CellsReady (sizes_of b) b (decode b).cells = record { is_open = opens_answer b o; cells_are = refl } in
    let l = pair_liftable ready i j h k in
    (scaled_small l, product_small l)
