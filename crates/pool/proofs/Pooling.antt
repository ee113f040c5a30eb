-- What is due of two parts after their own refusals, and what holds of an accepted pool. Assumes nothing.
use Rattle.std.specs.Prelude.{Some, None}
use mathlib.Core.Path.{◌≡◌, sym, ap, ◌∙◌}
use mathlib.Core.Bool.{true, false, not}
use mathlib.Core.List.{List, [], ◌∷◌, map}
use Prim.Native.Nat.{ℕ, ◌+◌, ◌*◌, ◌/◌, ◌<◌, ◌≤◌}
use native.Mathlib.Nat.{mul_comm, mul-add, add-mul, mul-zero, mul-mul-mul_comm, div-mul_cancel}
use native.Mathlib.Omega.{arith}
use lib.ListN.{length, get_or}
use lib.Dec.{ltb}
use borrow.Author.Tests.{lt-ltb, le-ltb, ltb-false, leb-true, not-false}
use Rattle.base.specs.Lists.{sum}
use Rattle.base.proofs.Lists.{all_elim}
use Rattle.base.proofs.Zips.{zip_length, zip_at}
use Rattle.refusals.specs.declared.Refusal.TheVariants.{Multiple, PooledCell}
use Rattle.refusals.specs.Due.{Test, refuse, due}
use Rattle.refusals.proofs.Dues.{due_here, due_next, due_second, first_none, not_here, not_later}
use Rattle.table.specs.Table.{total}
use Rattle.table.specs.Clauses.{IsTable}
use Rattle.table.specs.Check.{cells_within}
use Rattle.table.proofs.Sizes.{shape_of}
use Rattle.table.proofs.Tables.{table_accepted}
use Rattle.multiples.specs.Multiple.{least_multiple, LeastMultiple}
use Rattle.multiples.proofs.Multiples.{is_least}
use Rattle.pool.specs.Pool.{scaled_cells, pooled_cells, parts_tests, pooling_refusal}
use Rattle.pool.specs.Promises.{AddsUp, Pools}
use Rattle.pool.proofs.Checking.{Both, both}

-- 11 and 12, where nothing is due of the parts
module _ (r c d : ℕ) (g : List ℕ) (e : ℕ) (h : List ℕ) (free : due (parts_tests r c d g e h) ≡ None) where
  eleven : Test
  eleven = refuse Multiple (ltb 65535 (least_multiple d e))

  twelve : Test
  twelve = refuse PooledCell (not (cells_within (least_multiple d e) (pooled_cells d g e h)))

  after_parts : pooling_refusal r c d g e h ≡ due (eleven ∷ twelve ∷ [])
  unfolding pooling_refusal eleven twelve
  after_parts = due_second (parts_tests r c d g e h) (eleven ∷ twelve ∷ []) free

  pub multiple_due : 65535 < least_multiple d e → pooling_refusal r c d g e h ≡ Some Multiple
  unfolding eleven
  multiple_due l = after_parts ∙ due_here eleven (twelve ∷ []) (lt-ltb _ _ l)

  module _ (low : least_multiple d e ≤ 65535) where
    after_multiple : pooling_refusal r c d g e h ≡ due (twelve ∷ [])
    unfolding eleven
    after_multiple = after_parts ∙ due_next eleven (twelve ∷ []) (le-ltb _ _ low)

    pub cell_due : cells_within (least_multiple d e) (pooled_cells d g e h) ≡ false → pooling_refusal r c d g e h ≡ Some PooledCell
    unfolding twelve
    cell_due q = after_multiple ∙ due_here twelve [] (ap not q)

    pub nothing_due : cells_within (least_multiple d e) (pooled_cells d g e h) ≡ true → pooling_refusal r c d g e h ≡ None
    unfolding twelve due
    nothing_due q = after_multiple ∙ due_next twelve [] (ap not q)

-- pooled cells at any places
module _ (a b : ℕ) (g h : List ℕ) (alike : length g ≡ length h) where
  scaled_total : (s : List ℕ) → total (scaled_cells a b g h) s ≡ a * total g s + b * total h s
  unfolding total sum
  scaled_total [] = omega (arith, mul-zero a, mul-zero b)
  scaled_total (k ∷ s) =
      omega (
        arith,
        scaled_total s,
        zip_at (λ x y. a * x + b * y) {a = 0} {b = 0} {c = 0} (omega (arith, mul-zero a, mul-zero b)) g h alike k,
        mul-add a (get_or g k 0) (sum (map (λ i. get_or g i 0) s)),
        mul-add b (get_or h k 0) (sum (map (λ i. get_or h i 0) s)),
      )

-- two numbers brought to a common multiple m of d and e, and added up
brought : (a b d e m x y : ℕ) → a * d ≡ m → b * e ≡ m → AddsUp (a * x + b * y) m x d y e
brought a b d e m x y p q =
    let first : a * x * (d * e) ≡ x * e * m = mul-mul-mul_comm a x d e ∙ ap (λ (z : ℕ). z * (x * e)) p ∙ mul_comm m (x * e) in
    let second : b * y * (d * e) ≡ y * d * m =
    ap (λ (z : ℕ). b * y * z) (mul_comm d e) ∙ mul-mul-mul_comm b y e d ∙ ap (λ (z : ℕ). z * (y * d)) q ∙ mul_comm m (y * d) in
    omega (arith, add-mul (a * x) (b * y) (d * e), add-mul (x * e) (y * d) m)

-- what holds of an accepted pool
module _ (r c d : ℕ) (g : List ℕ) (e : ℕ) (h : List ℕ) (accepted : pooling_refusal r c d g e h ≡ None) where
  free : due (parts_tests r c d g e h) ≡ None
  unfolding pooling_refusal
  free = first_none (parts_tests r c d g e h) _ accepted

  tables : Both r c d g e h
  tables = both r c d g e h free

  is_multiple : LeastMultiple d e (least_multiple d e)
  is_multiple = is_least d e tables.first.some_denominator tables.second.some_denominator

  lengths : length g ≡ length h
  lengths = tables.first.shape.cells ∙ sym tables.second.shape.cells

  small_multiple : least_multiple d e ≤ 65535
  unfolding eleven
  small_multiple = ltb-false _ _ (not_here (eleven r c d g e h free) _ (sym (after_parts r c d g e h free) ∙ accepted))

  small_cells : cells_within (least_multiple d e) (pooled_cells d g e h) ≡ true
  unfolding eleven twelve
  small_cells = not-false _ (not_here (twelve r c d g e h free) _ (not_later (eleven r c d g e h free) _ (sym (after_parts r c d g e h free) ∙ accepted)))

  pooled_table : IsTable r c (least_multiple d e) (pooled_cells d g e h)
  unfolding pooled_cells
  pooled_table = record {
    shape = shape_of tables.first.shape _ (zip_length _ g h lengths ∙ tables.first.shape.cells);
    some_denominator = is_multiple.some;
    denominator = small_multiple;
    within = λ k l. leb-true _ _ (all_elim _ (pooled_cells d g e h) 0 small_cells k l);
  }

  pooled_exact : (s : List ℕ) → AddsUp (total (pooled_cells d g e h) s) (least_multiple d e) (total g s) d (total h s) e
  unfolding pooled_cells
  pooled_exact s =
      let k = least_multiple d e in
      rw (scaled_total (k / d) (k / e) g h lengths s)
      (brought (k / d) (k / e) d e k (total g s) (total h s) (div-mul_cancel d is_multiple.first) (div-mul_cancel e is_multiple.second))

  pub promised : Pools r c d g e h
  promised = record { multiple = is_multiple; exact = pooled_exact; accepted = table_accepted pooled_table }
