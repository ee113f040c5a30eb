-- An array and its counts in the order in which cells are compared; and where one array comes before another. Assumes nothing.
use mathlib.Core.Path.{◌≡◌, ap, ap₂, ◌∙◌}
use mathlib.Core.Logic.{inl, inr}
use mathlib.Core.List.{List, [], ◌∷◌}
use Prim.Native.Nat.{ℕ, zero, suc, ◌+◌, ◌*◌, ◌<◌, suc-le-suc}
use native.Mathlib.Omega.{arith}
use lib.Arith.{digits_lt, digits_div, digits_mod}
use lib.ListN.{length, get_or}
use Rattle.base.proofs.Lists.{length_tabulate, get_d_tabulate}
use Rattle.base.proofs.Tabulated.{tabulate_get_d}
use Rattle.cell_order.specs.Order.{nth_row, nth_column, rank}
use Rattle.cell_order.proofs.Ranks.{nth_row_lem, nth_column_lem, nth_rank, rank_below, rank_row, rank_column}
use Rattle.table.specs.Clauses.{Shape}
use Rattle.table.proofs.Sizes.{place_of}
use Rattle.first_rounding.specs.Order.{in_order, array_of, Smaller, Before}

module _ {A : Type 0} (z : A) where
  pub length_in_order : (r c : ℕ) (n : List A) → length (in_order z r c n) ≡ r * c
  unfolding in_order
  length_in_order r c n = length_tabulate (r * c) _

  -- the count at a place of the order
  pub in_order_at : (r c : ℕ) (n : List A) (i : ℕ) → i < r * c → get_or (in_order z r c n) i z ≡ get_or n (nth_row r c i * c + nth_column r c i) z
  unfolding in_order
  in_order_at r c n i h = get_d_tabulate (r * c) _ i z h

  -- that of the cell at row p and column q
  module _ {r c p q : ℕ} (hp : p < r) (hq : q < c) where
    pub at_rank : (n : List A) → get_or (in_order z r c n) (rank r c p q) z ≡ get_or n (p * c + q) z
    at_rank n =
        in_order_at r c n (rank r c p q) (rank_below hp hq)
        ∙ ap₂ (λ (i j : ℕ). get_or n (i * c + j) z) (rank_row hp hq) (rank_column hp hq)

    array_at : (l : List A) → get_or (array_of z r c l) (p * c + q) z ≡ get_or l (rank r c p q) z
    unfolding array_of
    array_at l =
        get_d_tabulate (r * c) _ (p * c + q) z (digits_lt hp hq)
        ∙ ap₂ (λ (i j : ℕ). get_or l (rank r c i j) z) (digits_div p hq) (digits_mod p hq)

  -- the two go back and forth
  module _ {r c : ℕ} {g : List ℕ} (s : Shape r c g) where
    pub array_of_order : (n : List A) → length n ≡ r * c → array_of z r c (in_order z r c n) ≡ n
    unfolding array_of
    array_of_order n e = tabulate_get_d n (r * c) z _ e
        (λ k h. let p = place_of s h in at_rank p.row p.column n ∙ ap (λ (i : ℕ). get_or n i z) p.is)

    pub order_of_array : (l : List A) → length l ≡ r * c → in_order z r c (array_of z r c l) ≡ l
    unfolding in_order
    order_of_array l e = tabulate_get_d l (r * c) z _ e
        (λ i h. array_at (nth_row_lem s.some_rows s.some_columns i h) (nth_column_lem s.some_rows s.some_columns i h) l
        ∙ ap (λ (j : ℕ). get_or l j z) (nth_rank s.some_rows s.some_columns i h))

-- a place where one list has the smaller count: the counts before it are the same
pub record Differs (k n : List ℕ) : Type 0 where
  pub place : ℕ
  pub inside : place < length n
  pub same : (i : ℕ) → i < place → get_or k i 0 ≡ get_or n i 0
  pub less : get_or k place 0 < get_or n place 0

pub smaller_at : (k n : List ℕ) → Smaller ◌<◌ k n → Differs k n
smaller_at [] n b = absurd b
smaller_at (x ∷ k) [] b = absurd b
smaller_at (x ∷ k) (y ∷ n) (inl l) = record { place = 0; inside = omega arith; same = λ i h. absurd (omega arith); less = l }
smaller_at (x ∷ k) (y ∷ n) (inr e) =
    let d = smaller_at k n e.1 in
    record { place = suc d.place; inside = suc-le-suc d.inside; same = shifted d.place d.same; less = d.less }
  where
    shifted : (j : ℕ) → ((i : ℕ) → i < j → get_or k i 0 ≡ get_or n i 0) → (i : ℕ) → i < suc j → get_or (x ∷ k) i 0 ≡ get_or (y ∷ n) i 0
    shifted j f zero h = e.0
    shifted j f (suc i) h = f i (omega arith)

-- the cell where one array comes before another
pub record DiffersAt (r c : ℕ) (k n : List ℕ) : Type 0 where
  pub row : ℕ
  pub column : ℕ
  pub row_inside : row < r
  pub column_inside : column < c
  pub same : (p q : ℕ) → p < r → q < c → rank r c p q < rank r c row column → get_or k (p * c + q) 0 ≡ get_or n (p * c + q) 0
  pub less : get_or k (row * c + column) 0 < get_or n (row * c + column) 0

pub before_at : {r c : ℕ} {g : List ℕ} → Shape r c g → (k n : List ℕ) → Before r c k n → DiffersAt r c k n
before_at {r} {c} s k n b =
    let d = smaller_at (in_order 0 r c k) (in_order 0 r c n) b in
    let h : d.place < r * c = omega (arith, d.inside, length_in_order 0 r c n) in
    let is = nth_rank s.some_rows s.some_columns d.place h in
    record {
      row = nth_row r c d.place;
      column = nth_column r c d.place;
      row_inside = nth_row_lem s.some_rows s.some_columns d.place h;
      column_inside = nth_column_lem s.some_rows s.some_columns d.place h;
      same = λ p q hp hq l. let e = d.same (rank r c p q) (omega arith) in omega (arith, at_rank 0 hp hq k, at_rank 0 hp hq n);
      less = omega (arith, d.less, in_order_at 0 r c k d.place h, in_order_at 0 r c n d.place h);
    }
