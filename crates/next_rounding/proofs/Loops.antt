-- Laws on the loops over the cells of an array. Assumes nothing.
use mathlib.Core.Path.{◌≡◌, refl, sym, ap, ap₂, ◌∙◌}
use mathlib.Core.Bool.{Bool, true, false}
use mathlib.Core.List.{List}
use Prim.Native.Nat.{ℕ, ◌+◌, ◌-◌, ◌*◌, ◌/◌, ◌%◌, ◌^◌, ◌<◌, ◌≤◌}
use native.Mathlib.Nat.{mul-le-mul, div-lt_iff_lt-mul, mod-lt, div-add-mod', zero-add}
use native.Mathlib.Decide.{ℕ_discrete}
use native.Mathlib.Omega.{arith}
use lib.Arith.{digits_lt, digits_div, digits_mod}
use lib.ListN.{length, get_or, set, take, length-set}
use lib.Seq.{get_or-set_same, get_or-set_other}
use Rattle.std.proofs.lemmas.List.{get_or-take, length-take, length-take-le}
use lib.Pow.{pow_mono, pow-add}
use mir.Syntax.{w32, w64}
use mir.Val.{Fits}
use Rattle.base.specs.Buffers.{written}
use Rattle.base.proofs.Lists.{length_tabulate, each_more}
use Rattle.base.proofs.Buffers.{written_front}
use Rattle.base.proofs.Filling.{filled_written}
use Rattle.cell_order.specs.Order.{nth_row, nth_column, rank}
use Rattle.cell_order.proofs.Ranks.{nth_row_lem, nth_column_lem, nth_rank, rank_row, rank_column, rank_below}
use Rattle.table.specs.Table.{entry_places}
use Rattle.is_rounding.specs.Clauses.{entries_between}
use Rattle.next_rounding.specs.Clauses.{Small, nth_place, digit, value_of, digit_at, number_in, numbered, IsNumbering, NumberReady, passes, FirstFrom}
use Rattle.next_rounding.proofs.Digits.{value_more}

module _ {r c : ℕ} (s : Small r c) where
  pub few_cells : r * c ≤ 16
  few_cells = mul-le-mul s.rows s.columns

  pub cells_fit : Fits w64 (r * c)
  cells_fit = record { fits = omega (arith, few_cells) }

  module _ {i : ℕ} (h : i < r * c) where
    row_inside : nth_row r c i < r
    row_inside = nth_row_lem s.some_rows s.some_columns i h

    column_inside : nth_column r c i < c
    column_inside = nth_column_lem s.some_rows s.some_columns i h

    nth_inside : nth_place r c i < r * c
    nth_inside = digits_lt row_inside column_inside

    -- the cell at a place has the rank of that place
    same_rank : (p q : ℕ) → q < c → p * c + q ≡ nth_place r c i → rank r c p q ≡ i
    same_rank p q hq e =
        let a : p ≡ nth_row r c i = sym (digits_div p hq) ∙ ap (λ (k : ℕ). k / c) e ∙ digits_div (nth_row r c i) column_inside in
        let b : q ≡ nth_column r c i = sym (digits_mod p hq) ∙ ap (λ (k : ℕ). k % c) e ∙ digits_mod (nth_row r c i) column_inside in
        ap₂ (rank r c) a b ∙ nth_rank s.some_rows s.some_columns i h

-- the numbers of the arrays end at a power of two
module _ {r c : ℕ} (s : Small r c) where
  pub power_few : 2 ^ (r * c) ≤ 65536
  power_few = pow_mono {j = 16} (few_cells s)

  pub power_is : 1 * 2 ^ (r * c) % 4294967296 ≡ 2 ^ (r * c)
  power_is = omega (arith, power_few)

-- the place of the next cell, by its row and column
module _ {r c : ℕ} (s : Small r c) {i : ℕ} (h : i < r * c) {x : ℕ} (e : x ≡ nth_row r c i) where
  row_is : x * c ≡ nth_row r c i * c
  row_is = ap (λ (a : ℕ). a * c) e

  pub row_fits : Fits w64 (x * c)
  row_fits = record { fits = omega (arith, row_is, nth_inside s h, few_cells s) }

  pub place_fits : {y : ℕ} → y ≡ nth_column r c i → Fits w64 (x * c + y)
  place_fits f = record { fits = omega (arith, row_is, nth_inside s h, few_cells s) }

-- the place of the next cell, of those that a loop goes through
module _ {r c : ℕ} {places low high : List ℕ} (t : IsNumbering r c places low high) {i : ℕ} (h : i < length (take (r * c) places)) where
  pub next_index : i < r * c
  next_index = omega (arith, length-take (r * c) places)

  pub next_few : i < 16
  next_few = omega (arith, next_index, few_cells t.small)

  pub next_is : get_or (take (r * c) places) i 0 ≡ nth_place r c i
  next_is = get_or-take (r * c) places i 0 next_index ∙ t.places_are.are i next_index

  pub next_inside : get_or (take (r * c) places) i 0 < r * c
  next_inside = omega (arith, next_is, nth_inside t.small next_index)

  pub next_small : get_or (take (r * c) places) i 0 < 16
  next_small = omega (arith, next_inside, few_cells t.small)

  pub next_low : get_or low (get_or (take (r * c) places) i 0) 0 ≤ 1000
  next_low = t.counts (get_or (take (r * c) places) i 0) next_inside

-- the places
pub record PlacesTo (r c : ℕ) (l : List ℕ) (i : ℕ) : Type 0 where
  pub len : length l ≡ 16
  pub are : (j : ℕ) → j < i → get_or l j 0 ≡ nth_place r c j

module _ {r c : ℕ} {l : List ℕ} {i : ℕ} (p : PlacesTo r c l i) where
  pub places_more : Small r c → i < r * c → {x y : ℕ} → x ≡ nth_row r c i → y ≡ nth_column r c i
      → PlacesTo r c (set l i (x * c + y)) (i + 1)
  places_more s h {x} {y} e f = record {
    len = length-set l i (x * c + y) ∙ p.len;
    are = each_more (λ (j : ℕ) (v : ℕ). v ≡ nth_place r c j) l i (x * c + y) (omega (arith, p.len, few_cells s)) p.are (ap₂ (λ (a b : ℕ). a * c + b) e f);
  }

-- the number of the digits so far
pub record ValueTo (b : ℕ → ℕ) (i x : ℕ) : Type 0 where
  pub is : x ≡ value_of i b
  pub small : x < 2 ^ i

pub value_none : (b : ℕ → ℕ) → ValueTo b 0 0
unfolding value_of
value_none b = record { is = refl; small = omega arith }

power_more : (i : ℕ) → 2 ^ (i + 1) ≡ 2 ^ i * 2
power_more i = pow-add 2 i 1

power_small : (i : ℕ) → i < 16 → 2 ^ i ≤ 32768
power_small i h = pow_mono {j = 15} (omega arith)

module _ {b : ℕ → ℕ} {i x : ℕ} (v : ValueTo b i x) (h : i < 16) where
  pub double_fits : Fits w32 (2 * x)
  double_fits = record { fits = omega (arith, v.small, power_small i h) }

  module _ {y : ℕ} (e : y ≡ b i) (l : b i ≤ 1) where
    value_fits : Fits w32 (2 * x + y)
    value_fits = record { fits = omega (arith, v.small, power_small i h) }

    value_next : ValueTo b (i + 1) (2 * x + y)
    value_next = record { is = omega (arith, v.is, value_more i b); small = omega (arith, v.small, power_more i) }

-- they are all cells
pub all_places : {r c : ℕ} {places low high : List ℕ} → IsNumbering r c places low high → length (take (r * c) places) ≡ r * c
all_places {r} {c} {places} t = length-take-le (r * c) places (omega (arith, t.places_are.len, few_cells t.small))

-- the digit of the next cell
module _ {r c : ℕ} {places low high n : List ℕ} (t : IsNumbering r c places low high) (ready : NumberReady r c low n) {i : ℕ} (h : i < length (take (r * c) places)) where
  abbrev p : ℕ
  p = get_or (take (r * c) places) i 0

  pub read_inside : p < length n
  read_inside = omega (arith, next_inside t h, ready.len)

  module _ {y : ℕ} (f : y ≡ get_or n p 0) where
    pub not_below : get_or low p 0 ≤ y
    not_below = omega (arith, ready.least p (next_inside t h))

    digit_is : y - get_or low p 0 ≡ digit_at r c low n i
    digit_is = ap (λ (x : ℕ). x - get_or low p 0) f ∙ ap (λ (q : ℕ). get_or n q 0 - get_or low q 0) (next_is t h)

    digit_small : digit_at r c low n i ≤ 1
    digit_small = omega (arith, digit_is, ready.most p (next_inside t h))

    module _ {x : ℕ} (v : ValueTo (digit_at r c low n) i x) where
      pub number_fits : Fits w32 (2 * x + (y - get_or low p 0))
      number_fits = value_fits v (next_few t h) digit_is digit_small

      pub number_more : ValueTo (digit_at r c low n) (i + 1) (2 * x + (y - get_or low p 0))
      number_more = value_next v (next_few t h) digit_is digit_small

pub number_all : (r c : ℕ) (low n : List ℕ) {i x : ℕ} → ValueTo (digit_at r c low n) i x → i ≤ r * c → r * c ≤ i → x ≡ number_in r c low n
number_all r c low n {i} v h l = let f : i ≡ r * c = omega arith in rw f at v.is

-- the counts, which are stored in the order of cells
pub record StoredTo (r c : ℕ) (low : List ℕ) (x : ℕ) (old new : List ℕ) (i : ℕ) : Type 0 where
  pub len : length new ≡ length old
  pub counts : (p q : ℕ) → p < r → q < c → rank r c p q < i → get_or new (p * c + q) 0 ≡ get_or low (p * c + q) 0 + digit (r * c) x (rank r c p q)
  pub beyond : (k : ℕ) → r * c ≤ k → get_or new k 0 ≡ get_or old k 0

pub stored_none : (r c : ℕ) (low : List ℕ) (x : ℕ) (old : List ℕ) → StoredTo r c low x old old 0
stored_none r c low x old = record { len = refl; counts = λ p q hp hq h. absurd (omega arith); beyond = λ k h. refl }

module _ {r c : ℕ} {low : List ℕ} {x : ℕ} {old new : List ℕ} {i : ℕ} (t : StoredTo r c low x old new i) where
  pub stored_more : Small r c → i < r * c → r * c ≤ length old → {p v : ℕ} → p ≡ nth_place r c i → v ≡ get_or low p 0 + digit (r * c) x i
      → StoredTo r c low x old (set new p v) (i + 1)
  stored_more s h room {p} {v} e f = record {
    len = length-set new p v ∙ t.len;
    counts = λ a b ha hb l. at a b ha hb l (ℕ_discrete (a * c + b) p);
    beyond = λ k l. get_or-set_other new p k v 0 (λ q. omega (arith, e, nth_inside s h)) ∙ t.beyond k l;
  }
    where
      at : (a b : ℕ) → a < r → b < c → rank r c a b < i + 1 → Dec (a * c + b ≡ p)
          → get_or (set new p v) (a * c + b) 0 ≡ get_or low (a * c + b) 0 + digit (r * c) x (rank r c a b)
      at a b ha hb l (yes q) =
          rw (q, same_rank s h a b hb (q ∙ e)) (get_or-set_same new p v 0 (omega (arith, e, nth_inside s h, t.len)) ∙ f)
      at a b ha hb l (no q) =
          get_or-set_other new p (a * c + b) v 0 (λ z. q z) ∙ t.counts a b ha hb
          (less (ℕ_discrete (rank r c a b) i))
        where
          less : Dec (rank r c a b ≡ i) → rank r c a b < i
          less (yes z) = absurd (q (ap₂ (λ (m n : ℕ). m * c + n) (sym (rank_row ha hb) ∙ ap (nth_row r c) z) (sym (rank_column ha hb) ∙ ap (nth_column r c) z) ∙ sym e))
          less (no z) = omega arith

  pub stored_all : Small r c → r * c ≤ i → r * c ≤ length old → new ≡ written (numbered r c low x) old
  unfolding numbered
  stored_all s h room = filled_written (record {
    len = t.len;
    inside = λ k l. rw (zero-add k) (at k l);
    before = λ k l. absurd (omega arith);
    beyond = λ k l. t.beyond k (omega arith);
  }) room
    where
      at : (k : ℕ) → k < r * c → get_or new k 0 ≡ get_or low k 0 + digit (r * c) x (rank r c (k / c) (k % c))
      at k l =
          let row : k / c < r = (div-lt_iff_lt-mul s.some_columns).1 l in
          let column : k % c < c = mod-lt k s.some_columns in
          rw (div-add-mod' k c) at (t.counts (k / c) (k % c) row column (omega (arith, rank_below row column)))

-- the next count
module _ {r c : ℕ} {places low high old : List ℕ} (ready : IsNumbering r c places low high) (room : r * c ≤ length old) {i : ℕ} (h : i < length (take (r * c) places))
    {x : ℕ} {new : List ℕ} (t : StoredTo r c low x old new i) where
  pub store_inside : get_or (take (r * c) places) i 0 < length new
  store_inside = omega (arith, next_inside ready h, t.len)

  pub store_more : {v : ℕ} → v ≡ get_or low (get_or (take (r * c) places) i 0) 0 + x / 2 ^ (r * c - 1 - i) % 2
      → StoredTo r c low x old (set new (get_or (take (r * c) places) i 0) v) (i + 1)
  store_more f = stored_more t ready.small (next_index ready h) room (next_is ready h) f

-- a search: the numbers from `from` on that were passed over
pub record Passed (test : ℕ → Bool) (from x : ℕ) : Type 0 where
  pub skipped : (y : ℕ) → from ≤ y → y < x → test y ≡ false

pub passed_none : (test : ℕ → Bool) (from : ℕ) → Passed test from from
passed_none test from = record { skipped = λ y h l. absurd (omega arith) }

module _ {test : ℕ → Bool} {from x : ℕ} (p : Passed test from x) where
  pub passed_more : test x ≡ false → Passed test from (x + 1)
  passed_more e = record { skipped = λ y h l. at y h (ℕ_discrete y x) l }
    where
      at : (y : ℕ) → from ≤ y → Dec (y ≡ x) → y < x + 1 → test y ≡ false
      at y h (yes q) l = rw q e
      at y h (no q) l = p.skipped y h (omega arith)

  pub first_found : {end : ℕ} → from ≤ x → x < end → test x ≡ true → FirstFrom test from end x
  first_found a b e = record { least = a; below = b; skipped = p.skipped; passes = e }

-- the counts of an array in a longer buffer
module _ {r c : ℕ} {places low high : List ℕ} (ready : IsNumbering r c places low high) (old : List ℕ) {new : List ℕ} (room : length old ≡ 16)
    (x : ℕ) (w : new ≡ written (numbered r c low x) old) where
  array_length : length (numbered r c low x) ≡ r * c
  unfolding numbered
  array_length = length_tabulate (r * c) _

  prefix_is : take (r * c) new ≡ numbered r c low x
  prefix_is = ap (take (r * c)) w ∙ written_front (numbered r c low x) old array_length

  pub held_is : {b : Bool} → b ≡ entries_between (entry_places r c) (take (r * c) new) low high → b ≡ passes r c low high x
  held_is f = f ∙ ap (λ (l : List ℕ). entries_between (entry_places r c) l low high) prefix_is
