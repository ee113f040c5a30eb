-- Where a fractional matrix has given line sums, a matrix of 0 and 1 has them. A cut forbids that where the rows of a set need more than the columns of a
-- set need and the places between allow; a fractional matrix shows that none does. Then any place can be fixed at 0 or at 1 so that still none does: a cut
-- that forbids the 0 and one that forbids the 1 would, by their union and their meet, be one that forbids both. Assumes nothing.
use mathlib.Core.Path.{◌≡◌, sym, ap, ap₂, ◌∙◌}
use mathlib.Core.List.{List}
use Prim.Native.Nat.{ℕ, zero, suc, ◌+◌, ◌-◌, ◌*◌, ◌/◌, ◌%◌, ◌<◌, ◌≤◌, min, max}
use native.Mathlib.Nat.{le_refl, le_antisymm, mul_left_comm, zero-add, le_trans, sub-le, max-eq_left, max-eq_right, min-eq_left, min-eq_right, mul-zero, one-mul, mul-one, mul-add, add-mul, mul-le-mul_right, zero-mul, lt_of_not-le, le_of_mul-le-mul_left}
use native.Mathlib.Decide.{dec_le, ℕ_discrete}
use native.Mathlib.Omega.{arith}
use lib.ListN.{get_or}
use Rattle.base.specs.Lists.{sum_to}
use Rattle.base.proofs.Sums.{sum_ext, sum_le, sum_lt, sum_zero, sum_add, sum_mul, sum_swap, sum_term, sum_one_more}
use Rattle.sets.specs.Clauses.{ind}
use Rattle.sets.proofs.Indicators.{ind_same, ind_other, ind_le}
use Rattle.line_sums.specs.Clauses.{at, Caps, Matrix, Solvable}
use Rattle.paths.specs.Clauses.{same_place}
use Rattle.line_sums.proofs.DoubleSums.{by_rows, by_cols, sum_both}
use Rattle.paths.proofs.Paths.{place_in_row, place_other_row, place_other_col, place_swap, sum_place}

abbrev Grid : Type 0
Grid = ℕ → ℕ → ℕ

-- all entries of a grid added up
abbrev whole : Grid → ℕ
whole f = sum_to 13 (λ p. sum_to 13 (λ q. f p q))

whole_ext : (f g : Grid) → ((p q : ℕ) → p < 13 → q < 13 → f p q ≡ g p q) → whole f ≡ whole g
whole_ext f g h = sum_ext 13 _ _ (λ p hp. sum_ext 13 _ _ (λ q hq. h p q hp hq))

whole_le : (f g : Grid) → ((p q : ℕ) → p < 13 → q < 13 → f p q ≤ g p q) → whole f ≤ whole g
whole_le f g h = sum_le 13 _ _ (λ p hp. sum_le 13 _ _ (λ q hq. h p q hp hq))

whole_lt : (f g : Grid) (i j : ℕ) → i < 13 → j < 13 → f i j < g i j → ((p q : ℕ) → p < 13 → q < 13 → f p q ≤ g p q) → whole f < whole g
whole_lt f g i j hi hj l h = sum_lt 13 _ _ i hi (sum_lt 13 _ _ j hj l (λ q hq. h i q hi hq)) (λ p hp. sum_le 13 _ _ (λ q hq. h p q hp hq))

-- a matrix within a cap that has the line sums
record Fit (cap : Grid) (rows cols : ℕ → ℕ) (x : Grid) : Type 0 where
  le : (p q : ℕ) → p < 13 → q < 13 → x p q ≤ cap p q
  row : (p : ℕ) → p < 13 → sum_to 13 (x p) ≡ rows p
  col : (q : ℕ) → q < 13 → sum_to 13 (λ p. x p q) ≡ cols q

-- the places of the rows of a and of the columns outside b
abbrev across : Grid → (ℕ → ℕ) → (ℕ → ℕ) → ℕ
across cap a b = whole (λ p q. (a p - b q) * cap p q)

abbrev Bits : (ℕ → ℕ) → Type 0
Bits a = (p : ℕ) → a p ≤ 1

-- no cut forbids it: the rows of a set need at most what the columns of a set need and the places between allow
record Open (cap : Grid) (rows cols : ℕ → ℕ) : Type 0 where
  bit : (p q : ℕ) → p < 13 → q < 13 → cap p q ≤ 1
  same : sum_to 13 rows ≡ sum_to 13 cols
  cuts : (a b : ℕ → ℕ) → Bits a → Bits b → sum_to 13 (λ p. a p * rows p) ≤ sum_to 13 (λ q. b q * cols q) + across cap a b

-- the numbers of a set, and one less at a member
taken_sum_lem : (a f : ℕ → ℕ) (i : ℕ) → i < 13 → 1 ≤ f i → sum_to 13 (λ p. a p * f p) ≡ sum_to 13 (λ p. a p * (f p - ind p i)) + a i
taken_sum_lem a f i hi h = sum_one_more 13 (λ p. a p * (f p - ind p i)) (λ p. a p * f p) i (a i) hi
    (let one : f i ≡ (f i - ind i i) + 1 = omega (arith, ind_same i) in ap (λ (x : ℕ). a i * x) one ∙ mul-add (a i) (f i - ind i i) 1 ∙ ap (λ (x : ℕ). a i * (f i - ind i i) + x) (mul-one (a i)))
    (λ p l n. let z : f p ≡ f p - ind p i = omega (arith, ind_other p i n) in ap (λ (x : ℕ). a p * x) z)

sum_less : (f : ℕ → ℕ) (i : ℕ) → i < 13 → 1 ≤ f i → sum_to 13 f ≡ sum_to 13 (λ p. f p - ind p i) + 1
sum_less f i hi h = sum_one_more 13 (λ p. f p - ind p i) f i 1 hi (omega (arith, ind_same i)) (λ p l n. omega (arith, ind_other p i n))

-- a place of the cap is taken out
module _ (cap : Grid) (i j : ℕ) (hi : i < 13) (hj : j < 13) (one : cap i j ≡ 1) where
  unfoldable without : Grid
  without p q = cap p q - same_place p i q j

  place_here : same_place i i j j ≡ 1
  place_here = place_in_row i j j ∙ ind_same j

  place_away : (p q : ℕ) → (p ≡ i → q ≡ j → ⊥) → same_place p i q j ≡ 0
  place_away p q n = go (ℕ_discrete p i)
    where
      go : Dec (p ≡ i) → same_place p i q j ≡ 0
      go (yes e) = place_other_col p i q j (n e)
      go (no m) = place_other_row p i q j m

  restored : (p q : ℕ) → without p q + same_place p i q j ≡ cap p q
  unfolding without
  restored p q = go (ℕ_discrete p i) (ℕ_discrete q j)
    where
      go : Dec (p ≡ i) → Dec (q ≡ j) → (cap p q - same_place p i q j) + same_place p i q j ≡ cap p q
      go (yes e) (yes f) = rw (e, f) (omega (arith, place_here, one))
      go (yes e) (no n) = omega (arith, place_away p q (λ _ f. n f))
      go (no n) f = omega (arith, place_away p q (λ e _. n e))

  across_less : (a b : ℕ → ℕ) → across cap a b ≡ across without a b + (a i - b j)
  across_less a b =
      whole_ext (λ p q. (a p - b q) * cap p q) (λ p q. (a p - b q) * without p q + (a p - b q) * same_place p i q j)
      (λ p q hp hq. ap (λ (x : ℕ). (a p - b q) * x) (sym (restored p q)) ∙ mul-add (a p - b q) (without p q) _)
      ∙ sum_both 13 13 (λ p q. (a p - b q) * without p q) (λ p q. (a p - b q) * same_place p i q j)
      ∙ ap (λ (x : ℕ). across without a b + x) here
    where
      here : whole (λ p q. (a p - b q) * same_place p i q j) ≡ a i - b j
      here =
          sum_one_more 13 (λ p. 0) (λ p. sum_to 13 (λ q. (a p - b q) * same_place p i q j)) i (a i - b j) hi
          (sum_one_more 13 (λ q. 0) (λ q. (a i - b q) * same_place i i q j) j (a i - b j) hj (rw place_here (omega (arith, mul-one (a i - b j))))
          (λ q l n. rw (place_away i q (λ _ f. n f)) (mul-zero _))
          ∙ ap (λ (x : ℕ). x + (a i - b j)) (sum_zero 13))
          (λ p l n. sum_ext 13 _ (λ q. 0) (λ q m. rw (place_away p q (λ e _. n e)) (mul-zero _)) ∙ sum_zero 13)
          ∙ ap (λ (x : ℕ). x + (a i - b j)) (sum_zero 13) ∙ zero-add (a i - b j)

-- two cuts and their union and meet, at one place
meet_union : (a₁ a₂ b₁ b₂ : ℕ) → (max a₁ a₂ - max b₁ b₂) + (min a₁ a₂ - min b₁ b₂) ≤ (a₁ - b₁) + (a₂ - b₂)
meet_union a₁ a₂ b₁ b₂ = go (dec_le a₁ a₂) (dec_le b₁ b₂)
  where
    go : Dec (a₁ ≤ a₂) → Dec (b₁ ≤ b₂) → (max a₁ a₂ - max b₁ b₂) + (min a₁ a₂ - min b₁ b₂) ≤ (a₁ - b₁) + (a₂ - b₂)
    go (yes h) (yes k) = rw (max-eq_right h, min-eq_left h, max-eq_right k, min-eq_left k) (omega arith)
    go (yes h) (no k) =
        let l : b₂ ≤ b₁ = omega arith in
        rw (max-eq_right h, min-eq_left h, max-eq_left l, min-eq_right l) (omega arith)
    go (no h) (yes k) =
        let m : a₂ ≤ a₁ = omega arith in
        rw (max-eq_left m, min-eq_right m, max-eq_right k, min-eq_left k) (omega arith)
    go (no h) (no k) =
        let m : a₂ ≤ a₁ = omega arith in
        let l : b₂ ≤ b₁ = omega arith in
        rw (max-eq_left m, min-eq_right m, max-eq_left l, min-eq_right l) (omega arith)

point : (a₁ a₂ b₁ b₂ c : ℕ) → (max a₁ a₂ - max b₁ b₂) * c + (min a₁ a₂ - min b₁ b₂) * c ≤ (a₁ - b₁) * c + (a₂ - b₂) * c
point a₁ a₂ b₁ b₂ c =
    rw (sym (add-mul (max a₁ a₂ - max b₁ b₂) (min a₁ a₂ - min b₁ b₂) c), sym (add-mul (a₁ - b₁) (a₂ - b₂) c)) (mul-le-mul_right c (meet_union a₁ a₂ b₁ b₂))

-- the union and the meet of two sets have their numbers together
both_sum : (a₁ a₂ f : ℕ → ℕ) → sum_to 13 (λ p. max (a₁ p) (a₂ p) * f p) + sum_to 13 (λ p. min (a₁ p) (a₂ p) * f p)
    ≡ sum_to 13 (λ p. a₁ p * f p) + sum_to 13 (λ p. a₂ p * f p)
both_sum a₁ a₂ f =
    sym (sum_add 13 (λ p. max (a₁ p) (a₂ p) * f p) (λ p. min (a₁ p) (a₂ p) * f p))
    ∙ sum_ext 13 _ _ (λ p h.
    let m : max (a₁ p) (a₂ p) + min (a₁ p) (a₂ p) ≡ a₁ p + a₂ p = omega arith in
    sym (add-mul (max (a₁ p) (a₂ p)) (min (a₁ p) (a₂ p)) (f p)) ∙ ap (λ (x : ℕ). x * f p) m ∙ add-mul (a₁ p) (a₂ p) (f p))
    ∙ sum_add 13 (λ p. a₁ p * f p) (λ p. a₂ p * f p)

module _ {cap : Grid} {rows cols : ℕ → ℕ} (o : Open cap rows cols) {i j : ℕ} (hi : i < 13) (hj : j < 13) (one : cap i j ≡ 1) where
  abbrev need : (ℕ → ℕ) → ℕ
  need a = sum_to 13 (λ p. a p * rows p)

  abbrev given : (ℕ → ℕ) → ℕ
  given b = sum_to 13 (λ q. b q * cols q)

  abbrev less : Grid
  less = without cap i j hi hj one

  -- a cut that allows just what it needs, with row i and without column j
  record Needs-one (a b : ℕ → ℕ) : Type 0 where
    bits_a : Bits a
    bits_b : Bits b
    in_a : a i ≡ 1
    out_b : b j ≡ 0
    tight : need a ≡ given b + across cap a b

  -- such a cut is one that forbids a 0 at the place
  no_zero : (a b : ℕ → ℕ) → Bits a → Bits b → given b + across less a b < need a → Needs-one a b
  no_zero a b ha hb bad =
      let all = o.cuts a b ha hb in
      let parts = across_less cap i j hi hj one a b in
      record {
        bits_a = ha;
        bits_b = hb;
        in_a = omega (arith, ha i, all, parts, bad);
        out_b = omega (arith, ha i, all, parts, bad);
        tight = omega (arith, ha i, all, parts, bad);
      }

  -- where there is one, row i and column j need something
  module _ {a b : ℕ → ℕ} (c : Needs-one a b) where
    -- without row i the cut would allow less and need as much, if that row needed nothing
    abbrev rest : ℕ → ℕ
    rest p = a p - ind p i

    rest_need : rows i ≡ 0 → need rest ≡ need a
    rest_need z = sum_ext 13 (λ p. rest p * rows p) (λ p. a p * rows p) (λ p h. at_row p (ℕ_discrete p i))
      where
        at_row : (p : ℕ) → Dec (p ≡ i) → rest p * rows p ≡ a p * rows p
        at_row p (yes e) = rw (e, z) (omega (arith, mul-zero (rest i), mul-zero (a i)))
        at_row p (no n) = let m : rest p ≡ a p = omega (arith, ind_other p i n) in ap (λ (x : ℕ). x * rows p) m

    rest_across : across cap rest b < across cap a b
    rest_across = whole_lt (λ p q. (rest p - b q) * cap p q) (λ p q. (a p - b q) * cap p q) i j hi hj
        (rw one (omega (arith, ind_same i, c.in_a, c.out_b))) (λ p q hp hq. mul-le-mul_right (cap p q) (omega arith))

    row_some : 1 ≤ rows i
    row_some = go (dec_le 1 (rows i))
      where
        go : Dec (1 ≤ rows i) → 1 ≤ rows i
        go (yes h) = h
        go (no n) =
            let z : rows i ≡ 0 = omega arith in
            let cut = o.cuts rest b (λ p. le_trans (sub-le (a p) (ind p i)) (c.bits_a p)) c.bits_b in
            absurd (omega (arith, cut, rest_need z, rest_across, c.tight))

    -- and with column j likewise
    abbrev more : ℕ → ℕ
    more q = max (b q) (ind q j)

    more_given : cols j ≡ 0 → given more ≡ given b
    more_given z = sum_ext 13 (λ q. more q * cols q) (λ q. b q * cols q) (λ q h. at_column q (ℕ_discrete q j))
      where
        at_column : (q : ℕ) → Dec (q ≡ j) → more q * cols q ≡ b q * cols q
        at_column q (yes e) = rw (e, z) (omega (arith, mul-zero (more j), mul-zero (b j)))
        at_column q (no n) = let m : more q ≡ b q = omega (arith, ind_other q j n) in ap (λ (x : ℕ). x * cols q) m

    more_across : across cap a more < across cap a b
    more_across = whole_lt (λ p q. (a p - more q) * cap p q) (λ p q. (a p - b q) * cap p q) i j hi hj
        (rw one (omega (arith, ind_same j, c.in_a, c.out_b))) (λ p q hp hq. mul-le-mul_right (cap p q) (omega arith))

    column_some : 1 ≤ cols j
    column_some = go (dec_le 1 (cols j))
      where
        go : Dec (1 ≤ cols j) → 1 ≤ cols j
        go (yes h) = h
        go (no n) =
            let z : cols j ≡ 0 = omega arith in
            let cut = o.cuts a more c.bits_a (λ q. omega (arith, c.bits_b q, ind_le q j)) in
            absurd (omega (arith, cut, more_given z, more_across, c.tight))

    -- and no cut forbids a 1 at the place: with this one it would forbid both
    module _ (a₂ b₂ : ℕ → ℕ) (ha : Bits a₂) (hb : Bits b₂) where
      abbrev need_less : ℕ
      need_less = sum_to 13 (λ p. a₂ p * (rows p - ind p i))

      abbrev given_less : ℕ
      given_less = sum_to 13 (λ q. b₂ q * (cols q - ind q j))

      module _ (bad : given_less + across less a₂ b₂ < need_less) where
        facts : (a₂ i ≡ 0) × (b₂ j ≡ 1) × (need a₂ ≡ given b₂ + across cap a₂ b₂)
        facts =
            let all = o.cuts a₂ b₂ ha hb in
            let parts = across_less cap i j hi hj one a₂ b₂ in
            let rows-parts = taken_sum_lem a₂ rows i hi row_some in
            let cols-parts = taken_sum_lem b₂ cols j hj column_some in
            (omega (arith, ha i, hb j, all, parts, rows-parts, cols-parts, bad), omega (arith, ha i, hb j, all, parts, rows-parts, cols-parts, bad), omega (arith, ha i, hb j, all, parts, rows-parts, cols-parts, bad))

        together : across cap (λ p. max (a p) (a₂ p)) (λ q. max (b q) (b₂ q)) + across cap (λ p. min (a p) (a₂ p)) (λ q. min (b q) (b₂ q))
            < across cap a b + across cap a₂ b₂
        together =
            let left = sum_both 13 13 (λ p q. (max (a p) (a₂ p) - max (b q) (b₂ q)) * cap p q) (λ p q. (min (a p) (a₂ p) - min (b q) (b₂ q)) * cap p q) in
            let right = sum_both 13 13 (λ p q. (a p - b q) * cap p q) (λ p q. (a₂ p - b₂ q) * cap p q) in
            let lt = whole_lt _ _ i j hi hj (rw (one, c.in_a, c.out_b, facts.0, facts.1) (omega arith))
            (λ p q hp hq. point (a p) (a₂ p) (b q) (b₂ q) (cap p q)) in
            omega (arith, left, right, lt)

        no_both : ⊥
        no_both =
            let union = o.cuts (λ p. max (a p) (a₂ p)) (λ q. max (b q) (b₂ q)) (λ p. omega (arith, c.bits_a p, ha p)) (λ q. omega (arith, c.bits_b q, hb q)) in
            let meet = o.cuts (λ p. min (a p) (a₂ p)) (λ q. min (b q) (b₂ q)) (λ p. omega (arith, c.bits_a p)) (λ q. omega (arith, c.bits_b q)) in
            omega (arith, union, meet, both_sum a a₂ rows, both_sum b b₂ cols, together, c.tight, facts.2)

  -- so one of the two still is open
  one_open : (Open less rows cols → ⊥) → (1 ≤ rows i → 1 ≤ cols j → Open less (λ p. rows p - ind p i) (λ q. cols q - ind q j) → ⊥) → ⊥
  one_open no-0 no-1 = no-0 (record { bit = less_bit; same = o.same; cuts = λ a b ha hb. cut a b ha hb (dec_le (need a) (given b + across less a b)) })
    where
      less_bit : (p q : ℕ) → p < 13 → q < 13 → less p q ≤ 1
      less_bit p q hp hq = omega (arith, o.bit p q hp hq, restored cap i j hi hj one p q)

      other : (a b : ℕ → ℕ) → Needs-one a b → ⊥
      other a b c =
          let some-row = row_some c in
          let some-column = column_some c in
          no-1 some-row some-column (record {
            bit = less_bit;
            same = omega (arith, o.same, sum_less rows i hi some-row, sum_less cols j hj some-column);
            cuts = λ a₂ b₂ ha hb. go a₂ b₂ ha hb (dec_le (need_less c a₂ b₂ ha hb) (given_less c a₂ b₂ ha hb + across less a₂ b₂));
          })
        where
          go : (a₂ b₂ : ℕ → ℕ) (ha : Bits a₂) (hb : Bits b₂) → Dec (need_less c a₂ b₂ ha hb ≤ given_less c a₂ b₂ ha hb + across less a₂ b₂)
              → need_less c a₂ b₂ ha hb ≤ given_less c a₂ b₂ ha hb + across less a₂ b₂
          go a₂ b₂ ha hb (yes h) = h
          go a₂ b₂ ha hb (no n) = absurd (no_both c a₂ b₂ ha hb (lt_of_not-le n))

      cut : (a b : ℕ → ℕ) → Bits a → Bits b → Dec (need a ≤ given b + across less a b) → need a ≤ given b + across less a b
      cut a b ha hb (yes h) = h
      cut a b ha hb (no n) = absurd (other a b (no_zero a b ha hb (lt_of_not-le n)))

  -- and a matrix of either is one of the whole
  zero_fits : {x : Grid} → Fit less rows cols x → Fit cap rows cols x
  zero_fits f = record { le = λ p q hp hq. omega (arith, f.le p q hp hq, restored cap i j hi hj one p q); row = f.row; col = f.col }

  one_fits : {x : Grid} → 1 ≤ rows i → 1 ≤ cols j → Fit less (λ p. rows p - ind p i) (λ q. cols q - ind q j) x → Fit cap rows cols (λ p q. x p q + same_place p i q j)
  one_fits {x} hr hc f = record {
    le = λ p q hp hq. omega (arith, f.le p q hp hq, restored cap i j hi hj one p q);
    row = λ p hp. sum_add 13 (x p) (λ q. same_place p i q j) ∙ ap₂ ◌+◌ (f.row p hp) (sum_place p i j hj) ∙ back rows i p hr;
    col = λ q hq.
        sum_add 13 (λ p. x p q) (λ p. same_place p i q j)
        ∙ ap₂ ◌+◌ (f.col q hq) (sum_ext 13 (λ p. same_place p i q j) (λ p. same_place q j p i) (λ p h. place_swap p i q j) ∙ sum_place q j i hi)
        ∙ back cols j q hc;
  }
    where
      back : (f : ℕ → ℕ) (k p : ℕ) → 1 ≤ f k → (f p - ind p k) + ind p k ≡ f p
      back f k p h = go (ℕ_discrete p k)
        where
          go : Dec (p ≡ k) → (f p - ind p k) + ind p k ≡ f p
          go (yes e) = rw e (omega (arith, ind_same k))
          go (no n) = omega (arith, ind_other p k n)

-- nothing is left that may vary
done : {cap : Grid} {rows cols : ℕ → ℕ} → Open cap rows cols → ((p q : ℕ) → p < 13 → q < 13 → cap p q ≡ 0) → Fit cap rows cols (λ p q. 0)
done {cap} {rows} {cols} o z = record {
  le = λ p q hp hq. omega arith;
  row = λ p hp. sum_zero 13 ∙ sym (none_row p hp);
  col = λ q hq. sum_zero 13 ∙ sym (omega (arith, sum_term 13 cols q hq, o.same, sum_ext 13 rows (λ p. 0) none_row, sum_zero 13));
}
  where
    none_row : (p : ℕ) → p < 13 → rows p ≡ 0
    none_row p hp =
        let cut = o.cuts (λ k. ind k p) (λ q. 0) (λ k. ind_le k p) (λ q. omega arith) in
        let left : sum_to 13 (λ k. ind k p * rows k) ≡ 0 + rows p =
        sum_one_more 13 (λ k. 0) (λ k. ind k p * rows k) p (rows p) hp (rw (ind_same p) (omega (arith, one-mul (rows p)))) (λ k l n. rw (ind_other k p n) (zero-mul (rows k)))
        ∙ ap (λ (x : ℕ). x + rows p) (sum_zero 13) in
        let columns : sum_to 13 (λ q. 0 * cols q) ≡ 0 = sum_ext 13 _ (λ q. 0) (λ q l. zero-mul (cols q)) ∙ sum_zero 13 in
        let places : across cap (λ k. ind k p) (λ q. 0) ≡ 0 =
        whole_ext _ (λ p q. 0) (λ k q hk hq. rw (z k q hk hq) (mul-zero _)) ∙ sum_ext 13 _ (λ p. 0) (λ p l. sum_zero 13) ∙ sum_zero 13 in
        omega (arith, cut, left, columns, places)

-- only the first k places, in row order, may vary: then there is not none
abbrev NotNone : ℕ → Type 0
NotNone k = (cap : Grid) (rows cols : ℕ → ℕ) → Open cap rows cols → ((p q : ℕ) → p < 13 → q < 13 → k ≤ p * 13 + q → cap p q ≡ 0)
    → ((x : Grid) → Fit cap rows cols x → ⊥) → ⊥

module _ (k : ℕ) (h : k < 169) (fewer : NotNone k) (cap : Grid) (rows cols : ℕ → ℕ) (o : Open cap rows cols)
    (z : (p q : ℕ) → p < 13 → q < 13 → suc k ≤ p * 13 + q → cap p q ≡ 0) (none : (x : Grid) → Fit cap rows cols x → ⊥) where
  abbrev i : ℕ
  i = k / 13

  abbrev j : ℕ
  j = k % 13

  hi : i < 13
  hi = omega arith

  hj : j < 13
  hj = omega arith

  before : (f : Grid) → ((p q : ℕ) → f p q ≤ cap p q) → f i j ≡ 0 → (p q : ℕ) → p < 13 → q < 13 → k ≤ p * 13 + q → f p q ≡ 0
  before f le e p q hp hq m = here (ℕ_discrete k (p * 13 + q))
    where
      here : Dec (k ≡ p * 13 + q) → f p q ≡ 0
      here (yes s) =
          let a : i ≡ p = omega arith in
          let b : j ≡ q = omega arith in
          rw (sym a, sym b) e
      here (no n) = omega (arith, le p q, z p q hp hq (omega arith))

  next : ⊥
  next = go (dec_le 1 (cap i j))
    where
      go : Dec (1 ≤ cap i j) → ⊥
      go (no n) = fewer cap rows cols o (before cap (λ p q. le_refl (cap p q)) (omega arith)) none
      go (yes m) =
          let one : cap i j ≡ 1 = omega (arith, o.bit i j hi hj) in
          let gone = before (without cap i j hi hj one) (λ p q. omega (arith, restored cap i j hi hj one p q))
          (omega (arith, restored cap i j hi hj one i j, place_here cap i j hi hj one, one)) in
          one_open o hi hj one
          (λ o₀. fewer _ _ _ o₀ gone (λ x f. none x (zero_fits o hi hj one f)))
          (λ hr hc o₁. fewer _ _ _ o₁ gone (λ x f. none _ (one_fits o hi hj one hr hc f)))

not_none : (k : ℕ) → k ≤ 169 → NotNone k
not_none zero h cap rows cols o z none = none _ (done o (λ p q hp hq. z p q hp hq (omega arith)))
not_none (suc k) h cap rows cols o z none = next k h (not_none k (omega arith)) cap rows cols o z none

-- a fractional matrix shows that no cut forbids it
module _ {cap rows cols : List ℕ} (c : Caps cap) (s : Solvable cap rows cols) where
  abbrev w : ℕ
  w = s.w

  abbrev x : Grid
  x = s.x

  abbrev row_need : ℕ → ℕ
  row_need p = get_or rows p 0

  abbrev column_need : ℕ → ℕ
  column_need q = get_or cols q 0

  total_rows : whole x ≡ w * sum_to 13 row_need
  total_rows = sum_ext 13 _ (λ p. w * row_need p) s.matrix.row ∙ sum_mul 13 w row_need

  total_columns : whole x ≡ w * sum_to 13 column_need
  total_columns = sum_swap 13 13 x ∙ sum_ext 13 _ (λ q. w * column_need q) s.matrix.col ∙ sum_mul 13 w column_need

  -- at one place
  spot : (a b v m : ℕ) → a ≤ 1 → b ≤ 1 → v ≤ m → a * v ≤ b * v + (a - b) * m
  spot zero b v m ha hb h = omega (arith, zero-mul v)
  spot (suc zero) zero v m ha hb h = omega arith
  spot (suc zero) (suc zero) v m ha hb h = omega arith
  spot (suc zero) (suc (suc b)) v m ha hb h = absurd (omega arith)
  spot (suc (suc a)) b v m ha hb h = absurd (omega arith)

  module _ (a b : ℕ → ℕ) (ha : Bits a) (hb : Bits b) where
    scaled_rows : whole (λ p q. a p * x p q) ≡ w * sum_to 13 (λ p. a p * row_need p)
    scaled_rows =
        by_rows 13 13 a x ∙ sum_ext 13 _ (λ p. w * (a p * row_need p)) (λ p h. ap (λ (n : ℕ). a p * n) (s.matrix.row p h) ∙ mul_left_comm (a p) w _)
        ∙ sum_mul 13 w (λ p. a p * row_need p)

    scaled_columns : whole (λ p q. b q * x p q) ≡ w * sum_to 13 (λ q. b q * column_need q)
    scaled_columns =
        by_cols 13 13 b x ∙ sum_ext 13 _ (λ q. w * (b q * column_need q)) (λ q h. ap (λ (n : ℕ). b q * n) (s.matrix.col q h) ∙ mul_left_comm (b q) w _)
        ∙ sum_mul 13 w (λ q. b q * column_need q)

    scaled_across : whole (λ p q. (a p - b q) * (w * at cap p q)) ≡ w * across (at cap) a b
    scaled_across =
        whole_ext _ (λ p q. w * ((a p - b q) * at cap p q)) (λ p q hp hq. mul_left_comm (a p - b q) w (at cap p q))
        ∙ sum_ext 13 _ (λ p. w * sum_to 13 (λ q. (a p - b q) * at cap p q)) (λ p h. sum_mul 13 w (λ q. (a p - b q) * at cap p q))
        ∙ sum_mul 13 w (λ p. sum_to 13 (λ q. (a p - b q) * at cap p q))

    no_cut : sum_to 13 (λ p. a p * row_need p) ≤ sum_to 13 (λ q. b q * column_need q) + across (at cap) a b
    no_cut =
        let all = whole_le (λ p q. a p * x p q) (λ p q. b q * x p q + (a p - b q) * (w * at cap p q))
        (λ p q hp hq. spot (a p) (b q) (x p q) (w * at cap p q) (ha p) (hb q) (s.matrix.le p q hp hq)) in
        let parts = sum_both 13 13 (λ p q. b q * x p q) (λ p q. (a p - b q) * (w * at cap p q)) in
        le_of_mul-le-mul_left {k = w}
        (omega (arith, all, parts, scaled_rows, scaled_columns, scaled_across, mul-add w (sum_to 13 (λ q. b q * column_need q)) (across (at cap) a b)))
        s.pos

  is_open : Open (at cap) row_need column_need
  is_open = record {
    bit = c.bit;
    same = le_antisymm
        (le_of_mul-le-mul_left {k = w} (omega (arith, total_rows, total_columns)) s.pos)
        (le_of_mul-le-mul_left {k = w} (omega (arith, total_rows, total_columns)) s.pos);
    cuts = no_cut;
  }

  -- so there is not none of 0 and 1
  pub some_matrix : ((x : ℕ → ℕ → ℕ) → Matrix 1 cap rows cols x → ⊥) → ⊥
  some_matrix none = not_none 169 (le_refl 169) (at cap) row_need column_need is_open (λ p q hp hq m. absurd (omega arith))
      (λ x f. none x (record {
        le = λ p q hp hq. rw one-mul (f.le p q hp hq);
        row = λ p hp. f.row p hp ∙ sym (one-mul _);
        col = λ q hq. f.col q hq ∙ sym (one-mul _);
      }))
