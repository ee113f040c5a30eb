-- When no weight is left: what the plan of every accepted table keeps, and that it is what the code has gathered. Assumes nothing.
use mathlib.Core.Path.{◌≡◌, refl, sym, ap, ap₂, ◌∙◌}
use mathlib.Core.Bool.{true}
use mathlib.Core.List.{List, [], ◌∷◌, map}
use Prim.Native.Nat.{ℕ, zero, suc, ◌+◌, ◌*◌, ◌/◌, ◌%◌, ◌^◌, ◌≤◌, ◌<◌}
use native.Mathlib.Decide.{dec_lt}
use native.Mathlib.Nat.{mul-zero}
use native.Mathlib.Omega.{arith}
use lib.ListN.{length, get_or, get_or-eq_default}
use lib.Dec.{leb, eqb}
use borrow.Author.Tests.{le-leb, eq-eqb}
use Rattle.base.proofs.Tabulated.{tabulate_get_d}
use Rattle.base.proofs.Sums.{list_ext}
use Rattle.base.specs.Lists.{tabulate, sum, all}
use Rattle.table.specs.Table.{total, cell_places}
use Rattle.table.specs.Whole.{up}
use Rattle.table.specs.Clauses.{IsTable}
use Rattle.base.proofs.Lists.{and_right, and_both, all_intro, all_elim, all_tabulate}
use Rattle.table.proofs.Sizes.{place_of, shape_of}
use Rattle.grid.proofs.GridSums.{cell_at}
use Rattle.is_rounding.specs.Rounding.{two_ways, is_rounding}
use Rattle.first_rounding.proofs.Roundings.{rounding_length}
use Rattle.weighted_arrays.specs.Plan.{Weighted, array_at}
use Rattle.form.specs.Form.{plan_length, decode}
use Rattle.opening.specs.Open.{held, weighted, consistent, Opens}
use Rattle.writing.specs.Clauses.{buffered_array, buffered_plan}
use Rattle.form.specs.Clauses.{Bounded}
use Rattle.form.proofs.Decodings.{WellShaped, decode_encode, encode_laid_out}
use Rattle.form.proofs.Encodings.{encode_length}
use Rattle.opening.proofs.Opening.{opens_by}
use Rattle.form.proofs.Layouts.{plan_least, plan_most}
use Rattle.planning.specs.Rounds.{plan_rounds, arrays_in, plan_of}
use Rattle.plan.specs.Call.{plan_bytes}
use Rattle.planning.specs.Clauses.{Progress}
use Rattle.plan.specs.Clauses.{AllGathered}
use Rattle.plan.specs.Promises.{Promises}
use Rattle.planning.proofs.GridMembers.{cell_in_lem}
use Rattle.table.proofs.Totals.{total_cell}
use Rattle.planning.proofs.Progressing.{progress_end, end_rounds, ended}
use Rattle.first_rounding.proofs.Small.{array_small}
use Rattle.planning.proofs.Reaching.{few_not_whole}

-- a number of a list is at most its sum
at_most_sum : (f : Weighted → ℕ) → f (record { weight = 0; counts = [] }) ≡ 0 → (l : List Weighted) (i : ℕ) → f (array_at l i) ≤ sum (map f l)
unfolding sum
at_most_sum f z [] i = omega arith
at_most_sum f z (a ∷ l) zero = omega arith
at_most_sum f z (a ∷ l) (suc i) = omega (arith, at_most_sum f z l i)

sum_none : sum (map (λ (a : Weighted). a.weight) []) ≡ 0
unfolding sum
sum_none = refl

-- a table with nothing in its cells has nothing anywhere
pub total_of_zeros : (g : List ℕ) → ((i : ℕ) → get_or g i 0 ≡ 0) → (s : List ℕ) → total g s ≡ 0
unfolding total sum
total_of_zeros g h [] = refl
total_of_zeros g h (i ∷ s) = omega (arith, h i, total_of_zeros g h s)

-- the rounds of an accepted table, down to the last
module _ {r c d : ℕ} {g : List ℕ} (t : IsTable r c d g) {k : ℕ} {left : List ℕ} {done : List Weighted} (p : Progress r c d g 0 k left done) where
  arrays_are : arrays_in (plan_rounds r c d g) ≡ done
  arrays_are = progress_end p

  count_is : length (arrays_in (plan_rounds r c d g)) ≡ k
  count_is = ap length arrays_are ∙ p.count

  -- what is left is nothing
  left_zero : (i : ℕ) → get_or left i 0 ≡ 0
  left_zero i = go (dec_lt i (r * c))
    where
      go : Dec (i < r * c) → get_or left i 0 ≡ 0
      go (yes h) = omega (arith, p.high (cell_places i) (cell_in_lem r c i h), mul-zero (up d (total g (cell_places i))), total_cell left i)
      go (no h) = get_or-eq_default left 0 {n = i} (omega (arith, p.shape.cells))

  all_sums : (s : List ℕ) → sum (map (λ x. x.weight * total x.counts s) (arrays_in (plan_rounds r c d g))) ≡ total g s
  all_sums s = rw arrays_are (omega (arith, p.sums s, total_of_zeros left left_zero s))

  all_weights : sum (map (λ x. x.weight) (arrays_in (plan_rounds r c d g))) ≡ d
  all_weights = rw arrays_are (omega (arith, p.weights))

  all_positive : all (λ x. leb 1 x.weight) (arrays_in (plan_rounds r c d g)) ≡ true
  all_positive = rw arrays_are p.positive

  all_rounded : all (λ x. is_rounding (two_ways r c) d g x.counts) (arrays_in (plan_rounds r c d g)) ≡ true
  all_rounded = rw arrays_are p.rounded

  few_arrays : k ≤ 170
  few_arrays = omega (arith, p.most, few_not_whole t.shape.rows t.shape.columns d g)

  some_arrays : 1 ≤ k
  some_arrays = go (done) refl
    where
      go : (l : List Weighted) → done ≡ l → 1 ≤ k
      go [] e = absurd (omega (arith, p.weights, ap (λ (x : List Weighted). sum (map (λ y. y.weight) x)) e ∙ sum_none, t.some_denominator))
      go (x ∷ l) e = omega (arith, p.count, ap length e)

  pub sizes : Bounded r c k × (1 ≤ k)
  sizes = (record { rows = t.shape.rows; columns = t.shape.columns; arrays = few_arrays }, some_arrays)

  -- the array at a place
  module _ (i : ℕ) (h : i < k) where
    inside : i < length (arrays_in (plan_rounds r c d g))
    inside = omega (arith, count_is)

    rounds_at : is_rounding (two_ways r c) d g (array_at (arrays_in (plan_rounds r c d g)) i).counts ≡ true
    rounds_at = all_elim (λ x. is_rounding (two_ways r c) d g x.counts) (arrays_in (plan_rounds r c d g)) _ all_rounded i inside

    counts_length : length (array_at (arrays_in (plan_rounds r c d g)) i).counts ≡ r * c
    counts_length = rounding_length t.shape d _ rounds_at

    count_small : (j : ℕ) → j < r * c → get_or (array_at (arrays_in (plan_rounds r c d g)) i).counts j 0 < 2 ^ 16
    count_small j l =
        let p = place_of t.shape l in
        let small = array_small t _ rounds_at (j / c) (j % c) p.row p.column in
        let at = rw (cell_at (shape_of t.shape _ counts_length) (j / c) (j % c) p.row p.column, p.is) at small in
        omega arith

    weight_small : (array_at (arrays_in (plan_rounds r c d g)) i).weight ≤ d
    weight_small = omega (arith, at_most_sum (λ x. x.weight) refl (arrays_in (plan_rounds r c d g)) i, all_weights)

  shaped : WellShaped (plan_of r c d g)
  unfolding plan_of
  shaped = record {
    shape = t.shape;
    some_denominator = t.some_denominator;
    denominator = t.denominator;
    cell = λ i h. omega (arith, t.within i (omega (arith, t.shape.cells)), t.denominator);
    some_arrays = omega (arith, count_is, some_arrays);
    arrays = omega (arith, count_is, few_arrays);
    array = λ i h.
        let l : i < k = omega (arith, count_is) in
        record { weight = omega (arith, weight_small i l, t.denominator); counts = counts_length i l; count = count_small i l };
  }

  -- the conditions of opening
  rounding_held : (x : Weighted) → is_rounding (two_ways r c) d g x.counts ≡ true → held (plan_of r c d g) x ≡ true
  unfolding plan_of is_rounding
  rounding_held x h = and_right (eqb (length x.counts) (r * c)) _ h

  held_all : all (held (plan_of r c d g)) (arrays_in (plan_rounds r c d g)) ≡ true
  held_all = all_intro (held (plan_of r c d g)) (arrays_in (plan_rounds r c d g)) (record { weight = 0; counts = [] })
      (λ i h. rounding_held (array_at (arrays_in (plan_rounds r c d g)) i) (rounds_at i (omega (arith, count_is))))

  cells_met_lem : (i : ℕ) → weighted (arrays_in (plan_rounds r c d g)) i ≡ get_or g i 0
  cells_met_lem i =
      list_ext _ _ (arrays_in (plan_rounds r c d g)) (λ x m. ap (λ (n : ℕ). x.weight * n) (sym (total_cell x.counts i)))
      ∙ all_sums (cell_places i)
      ∙ total_cell g i

  is_consistent : consistent (plan_of r c d g) ≡ true
  unfolding consistent plan_of
  is_consistent =
      and_both
      (and_both
      (and_both
      (and_both (all_intro (λ x. leb x (1000 * d)) g 0 (λ i h. le-leb _ _ (t.within i h))) all_positive)
      (eq-eqb _ _ all_weights))
      held_all)
      (all_tabulate (λ i. eqb (weighted (arrays_in (plan_rounds r c d g)) i) (get_or g i 0)) (r * c) (λ i. i) (λ i h. eq-eqb _ _ (cells_met_lem i)))

  bytes_decode : decode (plan_bytes r c d g) ≡ plan_of r c d g
  unfolding plan_bytes
  bytes_decode = decode_encode shaped

  bytes_open : Opens (plan_bytes r c d g)
  unfolding plan_bytes
  bytes_open = opens_by (plan_bytes r c d g) (encode_laid_out shaped) (ap consistent bytes_decode ∙ is_consistent)

  pub bytes_length : length (plan_bytes r c d g) ≡ plan_length r c k
  unfolding plan_bytes plan_of
  bytes_length = encode_length (plan_of r c d g) ∙ ap (plan_length r c) count_is

  promises : Promises r c d g
  unfolding plan_of
  promises = record {
    rounds = end_rounds p;
    positive = all_positive;
    weights = all_weights;
    sums = all_sums;
    rounded = all_rounded;
    few = omega (arith, count_is, p.most);
    most = omega (arith, count_is, few_arrays);
    len = bytes_length ∙ ap (plan_length r c) (sym count_is);
    len_low = rw bytes_length (plan_least t.shape.some_rows t.shape.some_columns some_arrays);
    len_high = rw bytes_length (plan_most sizes.0);
    opening = bytes_open;
    decodes = bytes_decode;
  }

pub promised : {r c d : ℕ} {g : List ℕ} → IsTable r c d g → Promises r c d g
promised t = promises t (ended t).progress

-- what the code has gathered is the plan
module _ {r c d : ℕ} {g : List ℕ} {k : ℕ} {weights counts : List ℕ} (a : AllGathered r c d g k weights counts) where
  t : IsTable r c d g
  t = a.rounds.reached.table

  p : Progress r c d g 0 k a.rounds.reached.rest a.rounds.reached.done
  p = a.rounds.reached.progress

  pub gathered_sizes : Bounded r c k × (1 ≤ k)
  gathered_sizes = sizes t p

  pub gathered_length : length (plan_bytes r c d g) ≡ plan_length r c k
  gathered_length = bytes_length t p

  held_is : (i : ℕ) → i < k → buffered_array (r * c) weights counts i ≡ array_at (arrays_in (plan_rounds r c d g)) i
  held_is i h =
      let same : array_at (arrays_in (plan_rounds r c d g)) i ≡ array_at a.rounds.reached.done i = ap (λ (l : List Weighted). array_at l i) (arrays_are t p) in
      let w : get_or weights i 0 ≡ (array_at (arrays_in (plan_rounds r c d g)) i).weight = a.rounds.weight_at_is i h ∙ ap (λ (x : Weighted). x.weight) (sym same) in
      let n : tabulate (r * c) (λ j. get_or counts (i * (r * c) + j) 0) ≡ (array_at (arrays_in (plan_rounds r c d g)) i).counts
      = tabulate_get_d (array_at (arrays_in (plan_rounds r c d g)) i).counts (r * c) 0 _ (counts_length t p i h)
      (λ j l. a.rounds.count_at_is i j h l ∙ ap (λ (x : Weighted). get_or x.counts j 0) (sym same)) in
      let make : ℕ → List ℕ → Weighted = λ x l. record { weight = x; counts = l } in
      ap₂ make w n

  pub plan_held : buffered_plan (record { rows = r; columns = c; arrays = k; denominator = d }) g weights counts ≡ plan_of r c d g
  unfolding plan_of
  plan_held =
      let e : tabulate k (buffered_array (r * c) weights counts) ≡ arrays_in (plan_rounds r c d g) = tabulate_get_d (arrays_in (plan_rounds r c d g)) k _ _ (count_is t p) held_is in
      rw e refl
