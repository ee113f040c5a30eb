-- The covariances of one cell with those before it, from the sums of its row. Assumes nothing.
use Rattle.std.specs.Prelude.{Ok}
use mathlib.Core.Path.{◌≡◌, refl, sym, ap, ◌∙◌}
use mathlib.Core.List.{List, []}
use Prim.Native.Nat.{ℕ, ◌+◌, ◌*◌, ◌<◌, ◌≤◌, min, max}
use native.Mathlib.Nat.{mul_assoc}
use native.Mathlib.Omega.{arith}
use lib.ListN.{length, get_or, replicate}
use Rattle.base.specs.Lists.{tabulate, sum_to, join_to}
use Rattle.base.proofs.Lists.{tabulate_ext}
use Rattle.base.proofs.Sums.{sum_ext, sum_places}
use Rattle.form.specs.declared.Sizes.{Sizes}
use Rattle.weighted_arrays.specs.Plan.{Weighted, Plan, array_at, cell_count}
use Rattle.form.specs.Form.{decode}
use Rattle.reading.specs.Clauses.{Sized}
use Rattle.reading.proofs.Readings.{cells_length, decode_few}
use Rattle.reading.proofs.Sizing.{sized_some, sized_denominator, denominator_is}
use Rattle.weighted_arrays.specs.Clauses.{SumsTo}
use Rattle.opening.specs.Open.{open_answer}
use Rattle.opening.proofs.Opening.{is_open, opened_sized}
use Rattle.opening.proofs.Sound.{Sound, sound}
use Rattle.weighted_arrays.proofs.Weighting.{sums_none}
use Rattle.covariances.specs.declared.Extremes.{Extremes}
use Rattle.covariances.specs.Covariance.{at, weighted_products, lift}
use Rattle.covariances.specs.Clauses.{factors, RowReady, Liftable, lifted_row, ExtremesReady, ExtremesOf, lifted_pair, lifted_pairs, RowsReady, RowAt, widest}
use Rattle.covariances.proofs.Counts.{products_most}
use Rattle.covariances.proofs.Folds.{joined_more}

-- an opened plan with its cells
pub record CellsReady (s : Sizes) (b cells : List ℕ) : Type 0 where
  pub is_open : open_answer b ≡ Ok s
  pub cells_are : cells ≡ (decode b).cells

module _ {s : Sizes} {b cells : List ℕ} (r : CellsReady s b cells) where
  abbrev p : Plan
  p = decode b

  pub ready_sized : Sized s b
  ready_sized = opened_sized b s r.is_open

  pub ready_sound : Sound p
  ready_sound = sound b (is_open b s r.is_open).opens

  pub ready_some : 0 < p.denominator
  ready_some = omega (arith, sized_some ready_sized, denominator_is ready_sized)

  pub cells_many : length cells ≡ cell_count p
  cells_many = ap length r.cells_are ∙ cells_length b

  pub cells_few : length cells ≤ 144
  cells_few = omega (arith, cells_many, decode_few b ready_sized.laid_out_is)

  -- the numbers of a pair lie within their bounds
  pub pair_liftable : (i j : ℕ) → i < cell_count p → j < cell_count p → Liftable p.denominator (weighted_products p.arrays (at i) (at j)) (at i p.cells) (at j p.cells)
  pair_liftable i j h k =
      let most : p.denominator ≤ 65535 = omega (arith, sized_denominator ready_sized, denominator_is ready_sized) in
      record {
        denominator = most;
        products = omega (arith, products_most ready_sound ready_some i j h k);
        first = omega (arith, ready_sound.meets.within i (omega (arith, ready_sound.cells)));
        second = omega (arith, ready_sound.meets.within j (omega (arith, ready_sound.cells)));
      }

-- the sums of a row are the weighted products of its pairs
products_are : (l : List Weighted) (a b : ℕ) → sum_to (length l) (λ j. factors l a j * get_or (array_at l j).counts b 0) ≡ weighted_products l (at a) (at b)
products_are l a b =
    sum_ext (length l) _ _ (λ j h. mul_assoc (array_at l j).weight _ _)
    ∙ sym (sum_places (λ (x : Weighted). x.weight * (get_or x.counts a 0 * get_or x.counts b 0)) l (record { weight = 0; counts = [] }))

module _ {s : Sizes} {b cells : List ℕ} {counts : List (List ℕ)} {a : ℕ} (o : open_answer b ≡ Ok s) (r : RowAt b cells counts a) where
  ready : CellsReady s b cells
  ready = record { is_open = o; cells_are = r.rows.cells_are }

  pub row_ready : RowReady b counts a (replicate 144 0)
  row_ready = record {
    kept = r.rows.kept;
    there = r.there;
    empty = sums_none _ _ a (omega (arith, r.there, cells_many ready, cells_few ready));
  }

  module _ {sums : List ℕ} (t : SumsTo (factors (decode b).arrays a) (decode b).arrays a (length (decode b).arrays) sums) {d : ℕ} (e : d ≡ s.denominator) where
    is_denominator : d ≡ (decode b).denominator
    is_denominator = e ∙ sym (denominator_is (ready_sized ready))

    sum_is : (j : ℕ) → j < a → get_or sums j 0 ≡ weighted_products (decode b).arrays (at a) (at j)
    sum_is j h = t.is j h ∙ products_are (decode b).arrays a j

    pub row_extremes_ready : ExtremesReady d cells a sums
    row_extremes_ready = record {
      there = omega (arith, r.there, cells_many ready);
      few = cells_few ready;
      room = t.len;
      liftable = λ j h. rw (is_denominator, sum_is j h, ready.cells_are) (pair_liftable ready a j r.there (omega (arith, r.there)));
    }

    pub row_is : {x y : Extremes} → ExtremesOf x (tabulate a (lifted_row d cells a sums)) y → ExtremesOf x (tabulate a (lifted_pair (decode b) a)) y
    row_is m = rw (tabulate_ext a (lifted_row d cells a sums) (lifted_pair (decode b) a) (λ j h. rw (is_denominator, sum_is j h, ready.cells_are) refl)) at m

-- the pairs of the first n cells are taken together
abbrev pub RowsTo : Plan → ℕ → Extremes → Type 0
RowsTo p n e = ExtremesOf widest (lifted_pairs p n) e

pub rows_none : (p : Plan) → RowsTo p 0 widest
unfolding lifted_pairs join_to
rows_none p = record { low = refl; high = refl }

-- and there is a cell for each place
module _ {s : Sizes} {b cells : List ℕ} {counts : List (List ℕ)} (o : open_answer b ≡ Ok s) (r : RowsReady b cells counts) where
  many : length cells ≡ cell_count (decode b)
  many = let ready : CellsReady s b cells = record { is_open = o; cells_are = r.cells_are } in cells_many ready

  pub rows_at : {a n : ℕ} → a < n → n ≡ length cells → RowAt b cells counts a
  rows_at h e = record { rows = r; there = omega (arith, many) }

  pub rows_all : {a n : ℕ} {e : Extremes} → RowsTo (decode b) a e → a ≤ n → n ≤ a → n ≡ length cells → RowsTo (decode b) (cell_count (decode b)) e
  rows_all {a} t h g e = let q : cell_count (decode b) ≡ a = omega (arith, many) in rw q t

pub rows_more : (p : Plan) (n : ℕ) {x : Extremes} → RowsTo p n x → {y : Extremes} → ExtremesOf x (tabulate n (lifted_pair p n)) y → RowsTo p (n + 1) y
unfolding lifted_pairs
rows_more p n r m = record {
  low = joined_more min (2 * lift) (λ a. tabulate a (lifted_pair p a)) n _ _ r.low m.low;
  high = joined_more max 0 (λ a. tabulate a (lifted_pair p a)) n _ _ r.high m.high;
}
