-- Controlled roundings, at each place of the grid; and the search finds the first. Assumes nothing.
use Rattle.std.specs.Prelude.{Option, Some, None}
use mathlib.Core.Path.{◌≡◌, sym, ap, ◌∙◌}
use mathlib.Core.Logic.{◌⊎◌, inl, inr}
use mathlib.Core.Bool.{Bool, true}
use mathlib.Core.List.{List, [], ◌∷◌, map}
use Prim.Native.Nat.{ℕ, suc, ◌+◌, ◌*◌, ◌<◌, suc-le-suc}
use native.Mathlib.Nat.{div-le_self}
use native.Mathlib.Decide.{ℕ_discrete}
use native.Mathlib.Omega.{arith}
use lib.ListN.{length, get_or, length-map}
use lib.Dec.{eqb}
use borrow.Author.Tests.{eq-eqb, eqb-true}
use Rattle.table.specs.Table.{total}
use Rattle.grid.specs.Clauses.{grid_at}
use Rattle.table.specs.Whole.{down, up, rounds_to}
use Rattle.table.specs.Clauses.{Shape}
use Rattle.base.proofs.Lists.{and_left, and_right, and_both}
use Rattle.cell_order.specs.Order.{nth_row, nth_column}
use Rattle.cell_order.proofs.Ranks.{nth_row_lem, nth_column_lem}
use Rattle.table.proofs.Sizes.{shape_of}
use Rattle.table.proofs.Totals.{total_none}
use Rattle.grid.proofs.GridSums.{cell_at}
use Rattle.grid.proofs.GridTests.{entries_grid, grid_entries}
use Rattle.table.proofs.Roundings.{gap_le, rounds, rounds_low, rounds_high}
use Rattle.is_rounding.specs.Rounding.{two_ways, is_rounding}
use Rattle.first_rounding.specs.First.{IsFirst, choice, first_rounding}
use Rattle.first_rounding.specs.Order.{Choice, in_order, array_of, found, first_of}
use Rattle.first_rounding.proofs.Firsts.{Within, Ordered, Answer, within_length, answer, found_first}
use Rattle.first_rounding.proofs.Orders.{length_in_order, in_order_at, array_of_order, order_of_array}

module _ {r c : ℕ} {g : List ℕ} (s : Shape r c g) (w : ℕ) (n : List ℕ) where
  pub rounding_length : is_rounding (two_ways r c) w g n ≡ true → length n ≡ r * c
  unfolding is_rounding
  rounding_length h = eqb-true _ _ (and_left (eqb (length n) (r * c)) _ h)

  nothing : rounds_to w (total g []) (total n []) ≡ true
  nothing = rw (total_none g, total_none n) (rounds w 0 0 (div-le_self 0 w) (omega arith))

  pub rounding_grid : is_rounding (two_ways r c) w g n ≡ true → (p q : ℕ) → p < 13 → q < 13 → rounds_to w (grid_at r c g p q) (grid_at r c n p q) ≡ true
  unfolding is_rounding grid_at
  rounding_grid h = entries_grid s (λ x. rounds_to w (total g x) (total n x)) (and_right (eqb (length n) (r * c)) _ h) nothing

  pub grid_rounding : length n ≡ r * c → ((p q : ℕ) → p < 13 → q < 13 → rounds_to w (grid_at r c g p q) (grid_at r c n p q) ≡ true) → is_rounding (two_ways r c) w g n ≡ true
  unfolding is_rounding grid_at
  grid_rounding e h = and_both (eq-eqb _ _ e) (grid_entries s (λ x. rounds_to w (total g x) (total n x)) h)

  -- a cell's count is the cell over w rounded down or up
  pub at_cell : is_rounding (two_ways r c) w g n ≡ true → (p q : ℕ) → p < r → q < c → rounds_to w (get_or g (p * c + q) 0) (get_or n (p * c + q) 0) ≡ true
  at_cell h p q hp hq =
      let at = rounding_grid h p q (omega (arith, s.rows)) (omega (arith, s.columns)) in
      rw (cell_at s p q hp hq, cell_at (shape_of s n (rounding_length h)) p q hp hq) at at

  in_order_lem : is_rounding (two_ways r c) w g n ≡ true → (i : ℕ) → i < r * c → rounds_to w (get_or (in_order 0 r c g) i 0) (get_or (in_order 0 r c n) i 0) ≡ true
  in_order_lem h i l = rw (in_order_at 0 r c g i l, in_order_at 0 r c n i l)
      (at_cell h (nth_row r c i) (nth_column r c i) (nth_row_lem s.some_rows s.some_columns i l) (nth_column_lem s.some_rows s.some_columns i l))

within_at : (w : ℕ) (g n : List ℕ) → length n ≡ length g → ((k : ℕ) → k < length g → rounds_to w (get_or g k 0) (get_or n k 0) ≡ true) → Within (map (choice w) g) n
within_at w [] [] e h = tt
within_at w [] (y ∷ n) e h = absurd (omega arith)
within_at w (x ∷ g) [] e h = absurd (omega arith)
within_at w (x ∷ g) (y ∷ n) e h = (which (ℕ_discrete y (down w x)), within_at w g n (omega arith) (λ k l. h (suc k) (suc-le-suc l)))
  where
    at : rounds_to w x y ≡ true
    at = h 0 (omega arith)

    which : Dec (y ≡ down w x) → (y ≡ down w x) ⊎ (y ≡ up w x)
    which (yes d) = inl d
    which (no d) = inr (omega (arith, rounds_low w x y at, rounds_high w x y at, gap_le w x))

pub ordered : (w : ℕ) (g : List ℕ) → Ordered (map (choice w) g)
ordered w [] = tt
ordered w (x ∷ g) = (omega arith, ordered w g)

-- the search gives the array that is first of all controlled roundings
module _ {r c : ℕ} {g : List ℕ} (s : Shape r c g) (w : ℕ) where
  pub made_of : (n : List ℕ) → is_rounding (two_ways r c) w g n ≡ true → Within (map (choice w) (in_order 0 r c g)) (in_order 0 r c n)
  made_of n h = within_at w (in_order 0 r c g) (in_order 0 r c n) (length_in_order 0 r c n ∙ sym (length_in_order 0 r c g))
      (λ i l. in_order_lem s w n h i (omega (arith, length_in_order 0 r c g)))

  pub made_length : (l : List ℕ) → Within (map (choice w) (in_order 0 r c g)) l → length l ≡ r * c
  made_length l h = within_length (map (choice w) (in_order 0 r c g)) l h ∙ length-map (in_order 0 r c g) (choice w) ∙ length_in_order 0 r c g

  module _ (n : List ℕ) (f : IsFirst r c w g n) where
    pub back : array_of 0 r c (in_order 0 r c n) ≡ n
    back = array_of_order 0 s n (rounding_length s w n f.rounding)

    pub finds : first_of (λ l. is_rounding (two_ways r c) w g (array_of 0 r c l)) (map (choice w) (in_order 0 r c g)) ≡ Some (in_order 0 r c n)
    finds = found_first (λ l. is_rounding (two_ways r c) w g (array_of 0 r c l)) (map (choice w) (in_order 0 r c g)) (ordered w (in_order 0 r c g)) (in_order 0 r c n)
        (record {
          passes = rw back f.rounding;
          within = made_of n f.rounding;
          first = λ l m h b. f.first (array_of 0 r c l) h (rw (order_of_array 0 s l (made_length l m)) b);
        })

    pub first_is : first_rounding r c w g ≡ n
    unfolding first_rounding
    first_is = ap (λ (o : Option (List ℕ)). array_of 0 r c (found o)) finds ∙ back

  -- if there is not none, the search gives the first
  pub not_none_first : (((n : List ℕ) → is_rounding (two_ways r c) w g n ≡ true → ⊥) → ⊥) → IsFirst r c w g (first_rounding r c w g)
  unfolding first_rounding
  not_none_first some_one = go (first_of test choices) (answer test choices (ordered w (in_order 0 r c g)))
    where
      choices : List (Choice ℕ)
      choices = map (choice w) (in_order 0 r c g)

      test : List ℕ → Bool
      test l = is_rounding (two_ways r c) w g (array_of 0 r c l)

      passes : (n : List ℕ) → is_rounding (two_ways r c) w g n ≡ true → test (in_order 0 r c n) ≡ true
      passes n h = rw (array_of_order 0 s n (rounding_length s w n h)) h

      go : (u : Option (List ℕ)) → Answer test choices u → IsFirst r c w g (array_of 0 r c (found u))
      go None a = absurd (some_one (λ n h. a (in_order 0 r c n) (made_of n h) (passes n h)))
      go (Some l) a = record {
        rounding = a.passes;
        first = λ k h b. a.first (in_order 0 r c k) (made_of k h) (passes k h) (rw (order_of_array 0 s l (made_length l a.within)) at b);
      }
