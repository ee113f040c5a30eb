-- Where bodies begin, and what the tests of a layout say on each way through them. Assumes nothing.
use mathlib.Core.Path.{◌≡◌, sym, ap, ◌∙◌}
use mathlib.Core.Bool.{Bool, true, false, not, ◌&&◌, and-false}
use mathlib.Core.List.{List}
use Prim.Native.Nat.{ℕ, zero, suc, ◌+◌, ◌*◌, ◌^◌, ◌<◌, ◌≤◌}
use native.Mathlib.Nat.{mul-le-mul, mul-le-mul_right, one-le-mul}
use native.Mathlib.Numerals.{add-one}
use native.Mathlib.Omega.{arith}
use lib.ListN.{length}
use Rattle.std.specs.Bool.{MatchBool}
use Rattle.std.specs.List.{AllWithin, HoldsAt, range_with_len}
use Rattle.std.proofs.lemmas.List.FromFn.{length-range_with_len, get_or-range_with_len}
use native.Mathlib.Nat.{zero-add}
use lib.Dec.{eqb}
use mir.Val.{Fits}
use mir.Syntax.{w64}
use borrow.Author.Tests.{eq-eqb, ne_eqb, eqb-true, not-true, not-false}
use Rattle.base.proofs.Lists.{and_left, and_right}
use Rattle.base.specs.Lists.{every}
use Rattle.base.proofs.Every.{every_intro, every_not, every_elim}
use Rattle.table.specs.Check.{up_to}
use Rattle.table.proofs.Checks.{up_to_low, up_to_high}
use Rattle.form.specs.declared.Sizes.{Sizes}
use Rattle.form.specs.Form.{body_at, plan_length, min_length, max_length, form_of, rows_of, columns_of, arrays_of, zero_of, denominator_of, sizes_of, length_of, start_right, head_right, laid_out}
use Rattle.form.specs.Clauses.{Bounded, Contents, offsets_right, Laid}

-- the body after the last begins where the plan ends
pub body_end : (r c k : ℕ) → body_at r c k (k + 1) ≡ plan_length r c k
body_end r c k = ap (body_at r c k) (add-one k)

-- a plan has at least 30 bytes and at most 50,912
pub plan_least : {r c k : ℕ} → 1 ≤ r → 1 ≤ c → 1 ≤ k → min_length ≤ plan_length r c k
plan_least {r} {c} some_rows some_columns some_arrays =
    let cells : 1 ≤ r * c = one-le-mul some_rows some_columns in
    let twice : 2 ≤ 2 * (r * c) = omega arith in
    omega (arith, mul-le-mul some_arrays twice)

pub plan_most : {r c k : ℕ} → Bounded r c k → plan_length r c k ≤ max_length
plan_most {r} {c} s =
    let cells : r * c ≤ 144 = mul-le-mul s.rows s.columns in
    let twice : 2 * (r * c) ≤ 288 = omega arith in
    omega (arith, mul-le-mul s.arrays twice)

module _ {r c k : ℕ} (s : Bounded r c k) where
  pub cells_few : r * c ≤ 144
  cells_few = mul-le-mul s.rows s.columns

  pub cells_fit : Fits w64 (r * c)
  cells_fit = record { fits = omega (arith, cells_few) }

  -- j bodies of arrays end within the plan
  module _ (j : ℕ) (h : j ≤ k) where
    pub within : j * (2 * (r * c)) ≤ k * (2 * (r * c))
    within = mul-le-mul_right (2 * (r * c)) h

  pub offset_fits : (i : ℕ) → i ≤ k → body_at r c k i < 2 ^ 32
  offset_fits zero h = omega (arith, plan_most s)
  offset_fits (suc i) h = omega (arith, plan_most s, within i (omega arith))

-- what the first eight bytes say if they passed their tests
pub record Started (b : List ℕ) : Type 0 where
  pub some_rows : 1 ≤ rows_of b
  pub some_columns : 1 ≤ columns_of b
  pub some_arrays : 1 ≤ arrays_of b
  pub sizes : Bounded (rows_of b) (columns_of b) (arrays_of b)

pub started : (b : List ℕ) → start_right b ≡ true → Started b
started b h =
    let f = eqb (form_of b) 1 in
    let z = eqb (zero_of b) 0 in
    let r = up_to 12 (rows_of b) in
    let c = up_to 12 (columns_of b) in
    let k = up_to 170 (arrays_of b) in
    let three : (f && z && r && c) ≡ true = and_left (f && z && r && c) k h in
    let two : (f && z && r) ≡ true = and_left (f && z && r) c three in
    record {
      some_rows = up_to_low 12 _ (and_right (f && z) r two);
      some_columns = up_to_low 12 _ (and_right (f && z && r) c three);
      some_arrays = up_to_low 170 _ (and_right (f && z && r && c) k h);
      sizes = record {
        rows = up_to_high 12 _ (and_right (f && z) r two);
        columns = up_to_high 12 _ (and_right (f && z && r) c three);
        arrays = up_to_high 170 _ (and_right (f && z && r && c) k h);
      };
    }

-- the length that they say
module _ (b : List ℕ) (h : start_right b ≡ true) where
  pub length_least : min_length ≤ length_of b
  length_least = let s = started b h in plan_least s.some_rows s.some_columns s.some_arrays

  pub length_most : length_of b ≤ max_length
  length_most = plan_most (started b h).sizes

-- what a head that passed its tests says
pub record Headed (b : List ℕ) : Type 0 where
  pub start : Started b
  pub some_denominator : 1 ≤ denominator_of b
  pub denominator : denominator_of b ≤ 65535

pub headed : (b : List ℕ) → head_right b ≡ true → Headed b
unfolding head_right
headed b h =
    let d = up_to 65535 (denominator_of b) in
    record {
      start = started b (and_left (start_right b) d h);
      some_denominator = up_to_low 65535 _ (and_right (start_right b) d h);
      denominator = up_to_high 65535 _ (and_right (start_right b) d h);
    }

-- what is known of a plan that passes the tests of its layout
pub laid : (b : List ℕ) → laid_out b ≡ true → Laid b
unfolding laid_out
laid b h =
    let e = eqb (length b) (plan_length (rows_of b) (columns_of b) (arrays_of b)) in
    let o = offsets_right b (rows_of b) (columns_of b) (arrays_of b) in
    let one : (head_right b && e) ≡ true = and_left (head_right b && e) o h in
    let head = headed b (and_left (head_right b) e one) in
    record {
      some_rows = head.start.some_rows;
      some_columns = head.start.some_columns;
      some_arrays = head.start.some_arrays;
      sizes = head.start.sizes;
      some_denominator = head.some_denominator;
      denominator = head.denominator;
      len = eqb-true _ _ (and_right (head_right b) e one);
      offsets = λ i l. eqb-true _ _ (every_elim _ _ (and_right (head_right b && e) o h) i (omega arith));
    }

-- what `all` over the numbers below n answers
pub every_by : (f : ℕ → Bool) (n : ℕ) (r : Bool)
    → MatchBool r (AllWithin (λ i. f i ≡ true) (range_with_len 0 n) 0 (length (range_with_len 0 n)))
    ((k : ℕ) × (k < length (range_with_len 0 n)) × HoldsAt (λ i. f i ≡ false) (range_with_len 0 n) k)
    → r ≡ every n f
every_by f n true h = sym (every_intro f n (λ i l. rw (get_or-range_with_len 0 n i 0 l, zero-add) at (h i 0 (omega arith) (rw (length-range_with_len 0 n) l))))
every_by f n false h =
    let l : h.0 < n = rw (length-range_with_len 0 n) at h.1 in
    every_not f n h.0 l (rw (get_or-range_with_len 0 n h.0 0 l, zero-add) at (h.2 0))

-- the ways through the test of a layout
pub short : (b : List ℕ) → length b < 16 → false ≡ laid_out b
unfolding laid_out
short b h =
    let k = arrays_of b in
    let e : length b ≡ plan_length (rows_of b) (columns_of b) k → ⊥ = λ q. omega arith in
    simp (ne_eqb _ _ e, and-false)

module _ (b : List ℕ) (t : Bool) (e : t ≡ head_right b) where
  pub bad_head : not t ≡ true → false ≡ laid_out b
  unfolding laid_out
  bad_head h = simp (sym e ∙ not-true t h)

  module _ (h : not t ≡ false) (s : Sizes) (is : s ≡ sizes_of b) where
    head : head_right b ≡ true
    head = sym e ∙ not-false t h

    pub sizes_bounded : Bounded s.rows s.columns s.arrays
    sizes_bounded = rw is (headed b head).start.sizes

    module _ (n : ℕ) (ne : n ≡ plan_length s.rows s.columns s.arrays) where
      pub bad_length : (length b ≡ n → ⊥) → false ≡ laid_out b
      unfolding laid_out
      bad_length q =
          let m : n ≡ plan_length (rows_of b) (columns_of b) (arrays_of b) = rw is at ne in
          simp (ne_eqb (length b) _ (λ p. q (p ∙ sym m)), and-false)

      module _ (q : length b ≡ n) where
        pub contents_there : Contents s.rows s.columns s.arrays b
        contents_there = record { sizes = sizes_bounded; room = omega (arith, ne, q) }

        pub laid_by : (x : Bool) → x ≡ offsets_right b s.rows s.columns s.arrays → x ≡ laid_out b
        unfolding laid_out
        laid_by x xe =
            let m : n ≡ plan_length (rows_of b) (columns_of b) (arrays_of b) = rw is at ne in
            let o : x ≡ offsets_right b (rows_of b) (columns_of b) (arrays_of b) = rw is at xe in
            simp (head, eq-eqb (length b) _ (q ∙ m)) o
