-- Arrays and their numbers: each controlled rounding is the array with its number, and the order of controlled roundings is that of their numbers. Assumes nothing.
use mathlib.Core.Path.{◌≡◌, sym, ap, ap₂, ◌∙◌}
use mathlib.Core.Logic.{⊎_elim}
use mathlib.Core.Bool.{true}
use mathlib.Core.List.{List}
use Prim.Native.Nat.{ℕ, ◌+◌, ◌-◌, ◌*◌, ◌/◌, ◌%◌, ◌^◌, ◌<◌, ◌≤◌}
use native.Mathlib.Omega.{arith}
use lib.Arith.{digits_lt, digits_div, digits_mod}
use lib.ListN.{length, get_or}
use Rattle.base.proofs.Lists.{length_tabulate, get_d_tabulate}
use Rattle.base.proofs.Tabulated.{tabulate_get_d}
use Rattle.cell_order.specs.Order.{nth_row, rank}
use Rattle.cell_order.proofs.Ranks.{nth_row_lem, nth_column_lem, nth_rank, rank_below, rank_row, rank_column}
use Rattle.table.specs.Whole.{down}
use Rattle.table.specs.Clauses.{Shape}
use Rattle.table.proofs.Sizes.{place_of}
use Rattle.table.proofs.Roundings.{gap_le, rounds_low, rounds_high}
use Rattle.is_rounding.specs.Rounding.{two_ways, is_rounding}
use Rattle.first_rounding.specs.Order.{in_order, Before}
use Rattle.first_rounding.proofs.Orders.{smaller_at, length_in_order, in_order_at}
use Rattle.first_rounding.proofs.Roundings.{rounding_length, at_cell}
use Rattle.next_rounding.specs.Clauses.{nth_place, digit, digit_at, number_in, numbered}
use Rattle.next_rounding.proofs.Digits.{value_below, value_same, value_less, value_of_digits, digits_of_value}
use Rattle.next_rounding.proofs.Following.{one_first}

module _ {r c : ℕ} {g : List ℕ} (s : Shape r c g) where
  -- the place of the i-th cell, and the cell at a place
  pub place_inside : (i : ℕ) → i < r * c → nth_place r c i < r * c
  place_inside i h = digits_lt (nth_row_lem s.some_rows s.some_columns i h) (nth_column_lem s.some_rows s.some_columns i h)

  rank_at : (i : ℕ) → i < r * c → rank r c (nth_place r c i / c) (nth_place r c i % c) ≡ i
  rank_at i h =
      let column = nth_column_lem s.some_rows s.some_columns i h in
      ap₂ (rank r c) (digits_div (nth_row r c i) column) (digits_mod (nth_row r c i) column) ∙ nth_rank s.some_rows s.some_columns i h

  place_at : (p : ℕ) → p < r * c → nth_place r c (rank r c (p / c) (p % c)) ≡ p
  place_at p h =
      let at = place_of s h in
      ap₂ (λ (i j : ℕ). i * c + j) (rank_row at.row at.column) (rank_column at.row at.column) ∙ at.is

  -- the number of the array with a number
  module _ (low : List ℕ) where
    numbered_at : (x p : ℕ) → p < r * c → get_or (numbered r c low x) p 0 ≡ get_or low p 0 + digit (r * c) x (rank r c (p / c) (p % c))
    unfolding numbered
    numbered_at x p h = get_d_tabulate (r * c) _ p 0 h

    pub numbered_length : (x : ℕ) → length (numbered r c low x) ≡ r * c
    unfolding numbered
    numbered_length x = length_tabulate (r * c) _

    pub number_of_array : (x : ℕ) → x < 2 ^ (r * c) → number_in r c low (numbered r c low x) ≡ x
    number_of_array x h =
        value_same (r * c) (digit_at r c low (numbered r c low x)) (digit (r * c) x)
        (λ i l.
        let at : get_or (numbered r c low x) (nth_place r c i) 0 ≡ get_or low (nth_place r c i) 0 + digit (r * c) x i =
        numbered_at x (nth_place r c i) (place_inside i l) ∙ ap (λ (j : ℕ). get_or low (nth_place r c i) 0 + digit (r * c) x j) (rank_at i l) in
        omega arith)
        ∙ value_of_digits (r * c) x h

  -- a table's counts rounded down
  module _ (w : ℕ) (low : List ℕ) (lows : (p : ℕ) → p < r * c → get_or low p 0 ≡ down w (get_or g p 0)) where
    module _ (n : List ℕ) (h : is_rounding (two_ways r c) w g n ≡ true) where
      pub count_least : (p : ℕ) → p < r * c → get_or low p 0 ≤ get_or n p 0
      count_least p l =
          let at = place_of s l in
          omega (arith, lows p l, rounds_low w (get_or g p 0) (get_or n p 0) (rw at.is at (at_cell s w n h (p / c) (p % c) at.row at.column)))

      pub count_most : (p : ℕ) → p < r * c → get_or n p 0 ≤ get_or low p 0 + 1
      count_most p l =
          let at = place_of s l in
          omega (
            arith,
            lows p l,
            gap_le w (get_or g p 0),
            rounds_high w (get_or g p 0) (get_or n p 0) (rw at.is at (at_cell s w n h (p / c) (p % c) at.row at.column)),
          )

      digits_small : (i : ℕ) → i < r * c → digit_at r c low n i ≤ 1
      digits_small i l = omega (arith, count_most (nth_place r c i) (place_inside i l))

      pub number_below : number_in r c low n < 2 ^ (r * c)
      number_below = value_below (r * c) (digit_at r c low n) digits_small

      pub array_of_number : numbered r c low (number_in r c low n) ≡ n
      unfolding numbered
      array_of_number = tabulate_get_d n (r * c) 0 _ (rounding_length s w n h) (λ p l.
          let at = place_of s l in
          let i = rank r c (p / c) (p % c) in
          let is : digit (r * c) (number_in r c low n) i ≡ digit_at r c low n i = digits_of_value (digit_at r c low n) (r * c) digits_small i (rank_below at.row at.column) in
          let there : digit_at r c low n i ≡ get_or n p 0 - get_or low p 0 = ap (λ (q : ℕ). get_or n q 0 - get_or low q 0) (place_at p l) in
          omega (arith, is, there, count_least p l))

    -- the order is that of the numbers
    module _ (k n : List ℕ) (h : is_rounding (two_ways r c) w g k ≡ true) (i : is_rounding (two_ways r c) w g n ≡ true) where
      pub before_less : Before r c k n → number_in r c low k < number_in r c low n
      before_less b =
          let d = smaller_at (in_order 0 r c k) (in_order 0 r c n) b in
          let inside : d.place < r * c = omega (arith, d.inside, length_in_order 0 r c n) in
          let p = nth_place r c d.place in
          value_less (r * c) (digit_at r c low k) (digit_at r c low n) d.place inside (digits_small k h)
          (λ j l.
          let same : get_or k (nth_place r c j) 0 ≡ get_or n (nth_place r c j) 0 =
          sym (in_order_at 0 r c k j (omega (arith, inside))) ∙ d.same j l ∙ in_order_at 0 r c n j (omega (arith, inside)) in
          ap (λ (x : ℕ). x - get_or low (nth_place r c j) 0) same)
          (omega (arith, d.less, in_order_at 0 r c k d.place inside, in_order_at 0 r c n d.place inside, count_least k h p (place_inside d.place inside)))

    pub less_before : (k n : List ℕ) → is_rounding (two_ways r c) w g k ≡ true → is_rounding (two_ways r c) w g n ≡ true
        → number_in r c low k < number_in r c low n → Before r c k n
    less_before k n h i l =
        ⊎_elim (λ e. absurd (let same : number_in r c low k ≡ number_in r c low n = ap (number_in r c low) e in omega arith))
        (⊎_elim (λ b. b) (λ b. absurd (let less = before_less n k i h b in omega arith)))
        (one_first s w k n h i)
