-- A table whose cells are whole multiples of w and naturals apart: its controlled roundings are those of the naturals, with the multiples added, in the same
-- order. Assumes nothing.
use Rattle.std.specs.Prelude.{Option, Some, None}
use mathlib.Core.Path.{◌≡◌, refl, sym, ap, ap₂, ◌∙◌}
use mathlib.Core.Logic.{inl, inr}
use mathlib.Core.Bool.{Bool, true, false, ◌&&◌}
use mathlib.Core.List.{List, [], ◌∷◌, map, zip_with}
use Prim.Native.Nat.{ℕ, zero, suc, ◌+◌, ◌*◌, ◌/◌, ◌%◌, ◌<◌}
use native.Mathlib.Omega.{arith}
use borrow.Author.Tests.{eqb-true}
use lib.Dec.{eqb}
use lib.IntN.{ℤ, pos, nat_abs, ◌+ℤ◌, ◌-ℤ◌, ◌*ℤ◌, +ℤ_idr}
use lib.ListN.{length, get_or, length-map}
use lib.Seq.{ext_get_or}
use lib.Signed.{◌<ℤ◌}
use Rattle.base.specs.Lists.{tabulate, sum, sumℤ, all}
use Rattle.base.proofs.Lists.{length_tabulate, get_d_tabulate, tabulate_ext, map_tabulate, and_left, and_right, all_elim}
use Rattle.base.proofs.Tabulated.{tabulate_get_d}
use Rattle.base.proofs.Zips.{zip_length, zip_at}
use Rattle.base.proofs.Differences.{sum_times, sum_cross}
use Rattle.cell_order.specs.Order.{nth_row, nth_column, rank}
use Rattle.table.specs.Table as natural-table
use Rattle.table.specs.Table.{cell_places, entry_places}
use Rattle.table.specs.Clauses.{Shape}
use Rattle.table.proofs.Sizes.{place_of}
use Rattle.table.proofs.EntryPlaces.{entries_length, cell_at}
use Rattle.first_rounding.specs.Order.{in_order, array_of, Smaller, Choice, either, empty_if, found, first_of}
use Rattle.is_rounding.specs.Rounding as rounding
use Rattle.first_rounding.specs.First as natural
use Rattle.first_rounding.proofs.Orders.{length_in_order, in_order_at, at_rank}
use Rattle.first_rounding.proofs.Roundings.{rounding_length, back, finds}
use Rattle.division.proofs.Meanings.{down_apart}
use Rattle.corrections.specs.Rounding.{total, rounds_to, is_rounding, Before, IsFirst, choice, first_rounding}
use Rattle.corrections.proofs.Apart.{less_added, same_counts, rounds_apart, up_apart, rounds_more}

-- naturals added to numbers, place by place
abbrev pub plus : ℤ → ℕ → ℤ
plus z n = z +ℤ pos n

abbrev pub moved : List ℤ → List ℕ → List ℤ
moved q n = zip_with plus q n

pub moved_at : (q : List ℤ) (n : List ℕ) → length q ≡ length n → (k : ℕ) → get_or (moved q n) k (pos 0) ≡ get_or q k (pos 0) +ℤ pos (get_or n k 0)
moved_at q n e k = zip_at plus refl q n e k

pub moved_length : (q : List ℤ) (n : List ℕ) → length q ≡ length n → length (moved q n) ≡ length q
moved_length q n e = zip_length plus q n e

-- entries
total_moved : (q : List ℤ) (n : List ℕ) → length q ≡ length n → (s : List ℕ) → total (moved q n) s ≡ total q s +ℤ pos (natural-table.total n s)
unfolding total sumℤ natural-table.total sum
total_moved q n e [] = refl
total_moved q n e (k ∷ s) = ap₂ ◌+ℤ◌ (moved_at q n e k) (total_moved q n e s) ∙ sum_cross (get_or q k (pos 0)) (pos (get_or n k 0)) _ _

one_cell_lem : (l : List ℤ) (i : ℕ) → total l (cell_places i) ≡ get_or l i (pos 0)
unfolding total sumℤ tabulate
one_cell_lem l i = +ℤ_idr (get_or l (i + 0 * 1) (pos 0)) ∙ (let e : i + 0 * 1 ≡ i = omega arith in ap (λ (k : ℕ). get_or l k (pos 0)) e)

-- the cells of g are w times q and e more
pub record Parted (w : ℕ) (g q : List ℤ) (e : List ℕ) : Type 0 where
  pub cells : (k : ℕ) → get_or g k (pos 0) ≡ get_or q k (pos 0) *ℤ pos w +ℤ pos (get_or e k 0)
  pub length_g : length g ≡ length e
  pub length_q : length q ≡ length e

total_parted : {w : ℕ} {g q : List ℤ} {e : List ℕ} → Parted w g q e → (s : List ℕ) → total g s ≡ total q s *ℤ pos w +ℤ pos (natural-table.total e s)
unfolding total sumℤ natural-table.total sum
total_parted {w} p [] = ap pos (omega arith)
total_parted {w} {g} {q} {e} p (k ∷ s) =
    ap₂ ◌+ℤ◌ (p.cells k) (total_parted p s)
    ∙ sum_cross (get_or q k (pos 0) *ℤ pos w) (pos (get_or e k 0)) _ _
    ∙ ap (λ (z : ℤ). z +ℤ pos (natural-table.total e (k ∷ s))) (sym (sum_times (get_or q k (pos 0)) (total q s) w))

all_same : {A : Type 0} (p t : A → Bool) → ((x : A) → p x ≡ t x) → (l : List A) → all p l ≡ all t l
unfolding all
all_same p t h [] = refl
all_same p t h (x ∷ l) = ap₂ ◌&&◌ (h x) (all_same p t h l)

zip_tabulate : {A B C : Type 0} (f : A → B → C) (n : ℕ) (a : ℕ → A) (b : ℕ → B) → zip_with f (tabulate n a) (tabulate n b) ≡ tabulate n (λ i. f (a i) (b i))
unfolding zip_with tabulate
zip_tabulate f zero a b = refl
zip_tabulate f (suc n) a b = ap (λ l. f (a 0) (b 0) ∷ l) (zip_tabulate f n (λ i. a (suc i)) (λ i. b (suc i)))

-- the search
abbrev moved_choice : ℤ → Choice ℕ → Choice ℤ
moved_choice z c = record { low = plus z c.low; high = plus z c.high }

abbrev moved_some : List ℤ → Option (List ℕ) → Option (List ℤ)
moved_some q (Some n) = Some (moved q n)
moved_some q None = None

search_moved : (test : List ℤ → Bool) (natural : List ℕ → Bool) (q : List ℤ) (cs : List (Choice ℕ)) → length q ≡ length cs
    → ((n : List ℕ) → length n ≡ length cs → test (moved q n) ≡ natural n) → first_of test (zip_with moved_choice q cs) ≡ moved_some q (first_of natural cs)
unfolding first_of zip_with
search_moved test natural [] [] e h = go (test []) (natural []) (h [] refl)
  where
    go : (a b : Bool) → a ≡ b → empty_if a ≡ moved_some [] (empty_if b)
    go true true p = refl
    go false false p = refl
    go true false p = let z : ◌≡◌ {A = ℕ} 0 1 = cc in absurd (omega arith)
    go false true p = let z : ◌≡◌ {A = ℕ} 0 1 = cc in absurd (omega arith)
search_moved test natural [] (c ∷ cs) e h = absurd (omega arith)
search_moved test natural (z ∷ q) [] e h = absurd (omega arith)
search_moved test natural (z ∷ q) (c ∷ cs) e h =
    ap₂ (either (plus z c.low) (plus z c.high))
    (search_moved (λ n. test (plus z c.low ∷ n)) (λ n. natural (c.low ∷ n)) q cs (omega arith) (λ n l. h (c.low ∷ n) (omega arith)))
    (search_moved (λ n. test (plus z c.high ∷ n)) (λ n. natural (c.high ∷ n)) q cs (omega arith) (λ n l. h (c.high ∷ n) (omega arith)))
    ∙ joined (first_of (λ n. natural (c.low ∷ n)) cs) (first_of (λ n. natural (c.high ∷ n)) cs)
  where
    joined : (u v : Option (List ℕ)) → either (plus z c.low) (plus z c.high) (moved_some q u) (moved_some q v) ≡ moved_some (z ∷ q) (either c.low c.high u v)
    joined (Some n) v = refl
    joined None (Some n) = refl
    joined None None = refl

-- the order
smaller_moved : (q : List ℤ) (k n : List ℕ) → Smaller ◌<ℤ◌ (moved q k) (moved q n) → Smaller ◌<◌ k n
unfolding zip_with
smaller_moved [] k n b = absurd b
smaller_moved (z ∷ q) [] n b = absurd b
smaller_moved (z ∷ q) (x ∷ k) [] b = absurd b
smaller_moved (z ∷ q) (x ∷ k) (y ∷ n) (inl l) = inl (less_added z x y l)
smaller_moved (z ∷ q) (x ∷ k) (y ∷ n) (inr e) = inr (same_counts z x y e.0, smaller_moved q k n e.1)

module _ (r c : ℕ) (q : List ℤ) (n : List ℕ) (e : length q ≡ length n) where
  order_moved : in_order (pos 0) r c (moved q n) ≡ moved (in_order (pos 0) r c q) (in_order 0 r c n)
  order_moved =
      let same = length_in_order (pos 0) r c q ∙ sym (length_in_order 0 r c n) in
      ext_get_or (pos 0) _ _ (length_in_order (pos 0) r c (moved q n) ∙ sym (moved_length _ _ same ∙ length_in_order (pos 0) r c q))
      (λ i h. let l : i < r * c = omega (arith, length_in_order (pos 0) r c (moved q n)) in
      in_order_at (pos 0) r c (moved q n) i l
      ∙ moved_at q n e (nth_row r c i * c + nth_column r c i)
      ∙ sym (moved_at _ _ same i ∙ ap₂ plus (in_order_at (pos 0) r c q i l) (in_order_at 0 r c n i l)))

array_length : (r c : ℕ) (l : List ℕ) → length (array_of 0 r c l) ≡ r * c
unfolding array_of
array_length r c l = length_tabulate (r * c) _

module _ {r c w : ℕ} {g q : List ℤ} {e : List ℕ} (s : Shape r c e) (h : 0 < w) (p : Parted w g q e) where
  q_length : length q ≡ r * c
  q_length = p.length_q ∙ s.cells

  -- the array that has the counts of a moved list
  array_moved : (l : List ℕ) → length l ≡ r * c → array_of (pos 0) r c (moved (in_order (pos 0) r c q) l) ≡ moved q (array_of 0 r c l)
  unfolding array_of
  array_moved l d =
      let same = length_in_order (pos 0) r c q ∙ sym d in
      let long : length (tabulate (r * c) (λ k. get_or l (rank r c (k / c) (k % c)) 0)) ≡ r * c = length_tabulate (r * c) _ in
      tabulate_get_d (moved q _) (r * c) (pos 0) _ (moved_length q _ (q_length ∙ sym long) ∙ q_length)
      (λ k b. let t = place_of s b in
      moved_at _ l same (rank r c (k / c) (k % c))
      ∙ ap (λ (z : ℤ). plus z (get_or l (rank r c (k / c) (k % c)) 0)) (at_rank (pos 0) t.row t.column q ∙ ap (λ (i : ℕ). get_or q i (pos 0)) t.is)
      ∙ sym (moved_at q _ (q_length ∙ sym long) k ∙ ap (plus (get_or q k (pos 0))) (get_d_tabulate (r * c) _ k 0 b)))

  pub rounding_moved : (n : List ℕ) → length n ≡ r * c → is_rounding r c w g (moved q n) ≡ rounding.is_rounding (rounding.two_ways r c) w e n
  unfolding is_rounding rounding.is_rounding
  rounding_moved n d =
      let same : length q ≡ length n = q_length ∙ sym d in
      ap₂ ◌&&◌
      (ap (λ (m : ℕ). eqb m (r * c)) (moved_length q n same ∙ q_length ∙ sym d))
      (all_same _ _ (λ x. ap₂ (rounds_to w) (total_parted p x) (total_moved q n same x) ∙ rounds_apart h (total q x) (natural-table.total e x) (natural-table.total n x)) (entry_places r c))

  choice_moved : (k : ℕ) → choice w (get_or g k (pos 0)) ≡ moved_choice (get_or q k (pos 0)) (natural.choice w (get_or e k 0))
  choice_moved k =
      ap (choice w) (p.cells k)
      ∙ ap₂ (λ (low high : ℤ). record { low = low; high = high }) (down_apart w h (get_or q k (pos 0)) (get_or e k 0)) (up_apart h (get_or q k (pos 0)) (get_or e k 0))

  choices_moved : map (choice w) (in_order (pos 0) r c g) ≡ zip_with moved_choice (in_order (pos 0) r c q) (map (natural.choice w) (in_order 0 r c e))
  unfolding in_order
  choices_moved =
      map_tabulate (choice w) (r * c) _
      ∙ tabulate_ext (r * c) _ _ (λ i l. choice_moved (nth_row r c i * c + nth_column r c i))
      ∙ sym (ap (zip_with moved_choice _) (map_tabulate (natural.choice w) (r * c) _) ∙ zip_tabulate moved_choice (r * c) _ _)

  -- the first controlled rounding
  module _ (n : List ℕ) (f : natural.IsFirst r c w e n) where
    n_length : length n ≡ r * c
    n_length = rounding_length s w n f.rounding

    pub first_moved : first_rounding r c w g ≡ moved q n
    unfolding first_rounding
    first_moved =
        ap (λ (o : Option (List ℤ)). array_of (pos 0) r c (found o))
        (ap (first_of (λ l. is_rounding r c w g (array_of (pos 0) r c l))) choices_moved
        ∙ search_moved _ (λ l. rounding.is_rounding (rounding.two_ways r c) w e (array_of 0 r c l)) (in_order (pos 0) r c q) (map (natural.choice w) (in_order 0 r c e)) (length_in_order (pos 0) r c q ∙ sym few)
        (λ l d. let d' : length l ≡ r * c = d ∙ few in ap (is_rounding r c w g) (array_moved l d') ∙ rounding_moved (array_of 0 r c l) (array_length r c l))
        ∙ ap (moved_some (in_order (pos 0) r c q)) (finds s w n f))
        ∙ array_moved (in_order 0 r c n) (length_in_order 0 r c n)
        ∙ ap (moved q) (back s w n f)
      where
        few : length (map (natural.choice w) (in_order 0 r c e)) ≡ r * c
        few = length-map (in_order 0 r c e) (natural.choice w) ∙ length_in_order 0 r c e

    -- a rounding is a moved list of counts
    module _ (k : List ℤ) (t : is_rounding r c w g k ≡ true) where
      k_length : length k ≡ r * c
      unfolding is_rounding
      k_length = eqb-true _ _ (and_left (eqb (length k) (r * c)) _ t)

      cell_rounds : (i : ℕ) → i < r * c → rounds_to w (get_or g i (pos 0)) (get_or k i (pos 0)) ≡ true
      unfolding is_rounding
      cell_rounds i l =
          let inside : i < length (entry_places r c) = omega (arith, entries_length r c) in
          let there = all_elim (λ x. rounds_to w (total g x) (total k x)) (entry_places r c) [] (and_right (eqb (length k) (r * c)) _ t) i inside in
          rw (cell_at r c i l, one_cell_lem g i, one_cell_lem k i) at there

      counts : List ℕ
      counts = zip_with (λ z y. nat_abs (y -ℤ z)) q k

      counts_length : length counts ≡ r * c
      unfolding counts
      counts_length = zip_length _ q k (q_length ∙ sym k_length) ∙ q_length

      is_moved : k ≡ moved q counts
      unfolding counts
      is_moved =
          ext_get_or (pos 0) k (moved q counts) (k_length ∙ sym (moved_length q counts (q_length ∙ sym counts_length) ∙ q_length))
          (λ i b. let l : i < r * c = omega (arith, k_length) in
          rounds_more h (get_or q i (pos 0)) (get_or e i 0) (get_or k i (pos 0)) (rw (p.cells i) at (cell_rounds i l))
          ∙ ap (plus (get_or q i (pos 0))) (sym (zip_at (λ z y. nat_abs (y -ℤ z)) {a = pos 0} {b = pos 0} {c = 0} refl q k (q_length ∙ sym k_length) i))
          ∙ sym (moved_at q counts (q_length ∙ sym counts_length) i))

      none_before : Before r c k (moved q n) → ⊥
      none_before b =
          f.first counts (sym (rounding_moved counts counts_length) ∙ ap (is_rounding r c w g) (sym is_moved) ∙ t)
          (smaller_moved (in_order (pos 0) r c q) (in_order 0 r c counts) (in_order 0 r c n)
          (rw (sym (order_moved r c q counts (q_length ∙ sym counts_length)), sym (order_moved r c q n (q_length ∙ sym n_length)), sym is_moved) b))

    pub is_first : IsFirst r c w g (moved q n)
    is_first = record { rounding = rounding_moved n n_length ∙ f.rounding; first = none_before }
