-- What the tests of a plan's contents say. Assumes nothing.
use mathlib.Core.Path.{◌≡◌, refl, sym, ap, ◌∙◌}
use mathlib.Core.Bool.{Bool, true, false, not, ◌&&◌, false≢true, and_assoc}
use mathlib.Core.List.{List, [], map}
use Prim.Native.Nat.{ℕ, ◌+◌, ◌*◌, ◌<◌, ◌≤◌}
use native.Mathlib.Decide.{dec_lt}
use native.Mathlib.Omega.{arith}
use lib.ListN.{length, get_or, take, replicate, get_or-eq_default}
use lib.Dec.{leb, eqb}
use mir.Val.{Fits}
use mir.Syntax.{w64}
use borrow.Author.Tests.{le-leb, lt-leb, leb-true, not-true}
use Rattle.base.specs.Lists.{sum, sum_to, all, every}
use Rattle.base.specs.Buffers.{written}
use Rattle.base.proofs.Lists.{all_elim}
use Rattle.base.proofs.Sums.{sum_places}
use Rattle.base.proofs.SumLoops.{sum_more}
use Rattle.base.proofs.Every.{Passed, passed_none, passed_more, passed_all, every_not, every_ext, every_place}
use Rattle.base.proofs.Buffers.{written_front}
use Rattle.table.specs.Table.{entry_places}
use Rattle.table.specs.Check.{cells_within}
use Rattle.table.specs.Clauses.{Shape}
use Rattle.form.specs.declared.Sizes.{Sizes}
use Rattle.weighted_arrays.specs.Plan.{Weighted, Plan, array_at, cell_count, weights_before}
use Rattle.form.specs.Form.{decode}
use Rattle.reading.proofs.Readings.{counts_length, cells_length}
use Rattle.is_rounding.proofs.Rounded.{between_rounds}
use Rattle.opening.specs.Open.{held, weighted, consistent}
use Rattle.is_rounding.specs.Clauses.{Bounds, entries_between, Counts}
use Rattle.weighted_arrays.specs.Clauses.{Addable, Increased, cells_met, weight_at, SumsTo}
use Rattle.reading.specs.Clauses.{Sized}
use Rattle.opening.specs.Clauses.{weights_right, arrays_right, ArraysTo, ArrayTested, ArraysTested, TableOf}
use Rattle.reading.proofs.Sizing.{arrays_are, cells_are, rows_are, columns_are, denominator_is, sized_few, sized_arrays, sized_some, sized_denominator, sized_shape}
use Rattle.weighted_arrays.proofs.Weighting.{sums_none, sums_addable, sums_more}
use Rattle.reading.proofs.Scratch.{scratch_room, counts_read}

-- the first k weights are at least 1, and s is their sum
pub record Weighed (l : List Weighted) (k s : ℕ) : Type 0 where
  pub some : Passed (λ j. leb 1 (weight_at l j)) k
  pub is : s ≡ weights_before l k
  pub small : s ≤ k * 4294967296

pub weighed_none : (l : List Weighted) → Weighed l 0 0
unfolding sum_to
weighed_none l = record { some = passed_none _; is = refl; small = omega arith }

-- the two tests, by the places of the list
weights_by : (p : Plan) → weights_right p ≡ (every (length p.arrays) (λ j. leb 1 (weight_at p.arrays j)) && eqb (weights_before p.arrays (length p.arrays)) p.denominator)
weights_by p = rw (← every_place (λ (a : Weighted). leb 1 a.weight) p.arrays (record { weight = 0; counts = [] }), sum_places (λ a. a.weight) p.arrays (record { weight = 0; counts = [] })) refl

module _ {s : Sizes} {b : List ℕ} (z : Sized s b) where
  abbrev p : Plan
  p = decode b

  abbrev l : List Weighted
  l = (decode b).arrays

  abbrev n : ℕ
  n = s.rows * s.columns

  module _ {k w : ℕ} (e : w ≡ weight_at l k) (h : k < s.arrays) where
    pub no_weight : w < 1 → false ≡ weights_right (decode b)
    no_weight q = sym (weights_by p ∙ simp (sym (every_not (λ j. leb 1 (weight_at l j)) (length l) k (rw (arrays_are z) h) (lt-leb 1 (weight_at l k) (rw (sym e) q)))))

    module _ {x sum : ℕ} (i : x ≡ w) (small : w < 4294967296) (m : Weighed l k sum) where
      pub weights_fit : Fits w64 (sum + x)
      weights_fit = record { fits = omega (arith, i, m.small, sized_arrays z) }

      pub weighed_more : 1 ≤ w → Weighed l (k + 1) (sum + x)
      weighed_more q = record {
        some = passed_more m.some (le-leb 1 (weight_at l k) (rw (sym e) q));
        is = omega (arith, m.is, e, i, sum_more (weight_at l) k);
        small = omega (arith, m.small, i);
      }

  pub weighed_all : {k sum d : ℕ} → Weighed l k sum → k ≤ s.arrays → s.arrays ≤ k → d ≡ s.denominator → eqb sum d ≡ weights_right (decode b)
  weighed_all {k} {sum} {d} m h q e =
      let size : k ≡ length l = omega (arith, arrays_are z) in
      let total : sum ≡ weights_before l (length l) = rw size at m.is in
      let all-some : every (length l) (λ j. leb 1 (weight_at l j)) ≡ true = sym (passed_all m.some (omega arith)) in
      sym (weights_by p ∙ rw (all-some, ← total, denominator_is z, ← e) refl)

  -- an array's counts, as they are read into a scratch
  module _ {k : ℕ} (h : k < s.arrays) {scratch : List ℕ} (e : scratch ≡ written (array_at (decode b).arrays k).counts (replicate 144 0)) where
    abbrev array : List ℕ
    array = (array_at (decode b).arrays k).counts

    module _ {low high sums : List ℕ} (t : ArraysTo s b low high k sums) where
      pub read_addable : Addable (take n scratch) sums
      read_addable = rw (counts_read z h e) (sums_addable t.sums_are (counts_length b k (rw (arrays_are z) h)) (omega (arith, cells_are z, sized_few z)) (omega (arith, sized_arrays z)))

      pub read_counts : Counts s.rows s.columns (take n scratch) low high
      read_counts = rw (counts_read z h e) (record { shape = sized_shape z array (counts_length b k (rw (arrays_are z) h)); room = t.bounds.room })

      entries_held : entries_between (entry_places s.rows s.columns) array low high ≡ held (decode b) (array_at (decode b).arrays k)
      entries_held = between_rounds t.bounds array ∙ rw (rows_are z, columns_are z, denominator_is z) refl

      pub array_tested : {w : ℕ} {r : Bool} {new : List ℕ} → w ≡ weight_at (decode b).arrays k → Increased w (take n scratch) sums new
          → r ≡ entries_between (entry_places s.rows s.columns) (take n scratch) low high
          → ArrayTested b k r new
      array_tested {w} {r} {new} q i a = record {
        answer = (rw (counts_read z h e) at a) ∙ entries_held;
        sums_are = sums_more t.sums_are (counts_length b k (rw (arrays_are z) h)) (rw (counts_read z h e) at i) q refl;
      }

-- the loop over the arrays
abbrev pub held_at : List ℕ → ℕ → Bool
held_at b j = held (decode b) (array_at (decode b).arrays j)

held_by_place : (b : List ℕ) → every (length (decode b).arrays) (held_at b) ≡ all (held (decode b)) (decode b).arrays
held_by_place b = every_place (held (decode b)) (decode b).arrays (record { weight = 0; counts = [] })

module _ {s : Sizes} {b : List ℕ} (z : Sized s b) {k : ℕ} where
  pub array_fails : {x : Bool} {sums : List ℕ} → k < s.arrays → x ≡ held_at b k → not x ≡ true → ArraysTested b false sums
  array_fails {x} h e q = record {
    answer = every_not (held_at b) (length (decode b).arrays) k (rw (arrays_are z) h) (sym e ∙ not-true x q) ∙ held_by_place b;
    sums_are = λ r. absurd (false≢true r);
  }

  pub arrays_pass : {sums : List ℕ} → Passed (held_at b) k → SumsTo (weight_at (decode b).arrays) (decode b).arrays (cell_count (decode b)) k sums
      → k ≤ s.arrays → s.arrays ≤ k → ArraysTested b true sums
  arrays_pass p t h q =
      let size : k ≡ length (decode b).arrays = omega (arith, arrays_are z) in
      record {
        answer = passed_all p (omega arith) ∙ held_by_place b;
        sums_are = λ r. rw size at t;
      }

-- the two tests of the arrays
module _ {s : Sizes} {b cells : List ℕ} (z : Sized s b) (t : TableOf s b cells) where
  pub table_shape : Shape s.rows s.columns cells
  table_shape = sized_shape z cells (ap length t.is ∙ cells_length b)

  pub table_arrays : {low high : List ℕ} → Bounds (entry_places s.rows s.columns) s.denominator cells low high → ArraysTo s b low high 0 (replicate 144 0)
  table_arrays u = record {
    bounds = rw t.is at u;
    sums_are = sums_none _ _ _ (omega (arith, cells_are z, sized_few z));
  }

  pub table_few : length cells ≤ 144
  table_few = omega (arith, table_shape.cells, sized_few z)

  module _ {x : Bool} {sums : List ℕ} (a : ArraysTested b x sums) where
    pub arrays_unheld : x ≡ false → x ≡ arrays_right (decode b)
    unfolding arrays_right
    arrays_unheld h = simp (sym a.answer ∙ h) h

    pub arrays_met : x ≡ true → {y : Bool} → y ≡ cells_met cells sums → y ≡ arrays_right (decode b)
    unfolding arrays_right cells_met
    arrays_met h {y} e =
        let all_held : all (held (decode b)) (decode b).arrays ≡ true = sym a.answer ∙ h in
        let size : length cells ≡ cell_count (decode b) = ap length t.is ∙ cells_length b in
        let same : every (cell_count (decode b)) (λ i. eqb (get_or sums i 0) (get_or cells i 0)) ≡ every (cell_count (decode b)) (λ i. eqb (weighted (decode b).arrays i) (get_or (decode b).cells i 0)) = every_ext (cell_count (decode b)) _ _
        (λ i l.
        let sum : get_or sums i 0 ≡ weighted (decode b).arrays i = (a.sums_are h).is i l ∙ sym (sum_places (λ a. a.weight * get_or a.counts i 0) (decode b).arrays (record { weight = 0; counts = [] })) in
        let cell : get_or cells i 0 ≡ get_or (decode b).cells i 0 = ap (λ (g : List ℕ). get_or g i 0) t.is in
        cc) in
        e ∙ ap (λ (n : ℕ). every n (λ i. eqb (get_or sums i 0) (get_or cells i 0))) size ∙ same ∙ sym (simp all_held)

-- five tests, as three
and_five : (a b c d e : Bool) → (a && b && c && d && e) ≡ (a && (b && c) && (d && e))
and_five true true c d e = and_assoc c d e
and_five true false c d e = refl
and_five false b c d e = refl

-- the conditions on a plan's contents, as they are tested
module _ {s : Sizes} {b : List ℕ} (z : Sized s b) where
  abbrev count : ℕ
  count = s.rows * s.columns

  module _ {scratch : List ℕ} (e : scratch ≡ written (decode b).cells (replicate 144 0)) where
    cells_long : length (decode b).cells ≡ count
    cells_long = cells_length b ∙ cells_are z

    pub cells_read : take count scratch ≡ (decode b).cells
    cells_read = ap (take count) e ∙ written_front (decode b).cells (replicate 144 0) cells_long

    pub cells_within_room : count ≤ length scratch
    cells_within_room = scratch_room (decode b).cells cells_long (sized_few z) e

    pub cells_part : count ≡ length (take count scratch)
    cells_part = sym (ap length cells_read ∙ cells_long)

    -- the three tests
    pub consistent_is : consistent (decode b) ≡ (cells_within s.denominator (take count scratch) && weights_right (decode b) && arrays_right (decode b))
    unfolding consistent arrays_right
    consistent_is = rw (cells_read, ← denominator_is z)
        (and_five
        (cells_within (decode b).denominator (decode b).cells)
        (all (λ a. leb 1 a.weight) (decode b).arrays)
        (eqb (sum (map (λ a. a.weight) (decode b).arrays)) (decode b).denominator)
        (all (held (decode b)) (decode b).arrays)
        (every ((decode b).rows * (decode b).columns) (λ i. eqb (weighted (decode b).arrays i) (get_or (decode b).cells i 0))))

    pub table_is : cells_within s.denominator (take count scratch) ≡ true → TableOf s b (take count scratch)
    table_is h = record {
      is = cells_read;
      cells_are = record {
        some = sized_some z;
        denominator = sized_denominator z;
        within = λ i. small i (dec_lt i (length (take count scratch)));
      };
    }
      where
        small : (i : ℕ) → Dec (i < length (take count scratch)) → get_or (take count scratch) i 0 ≤ 1000 * s.denominator
        small i (yes l) = leb-true _ _ (all_elim _ (take count scratch) 0 h i l)
        small i (no l) = omega (arith, get_or-eq_default (take count scratch) 0 {n = i} (omega arith))
