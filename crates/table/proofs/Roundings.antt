-- The rounding of one entry, as a bound from below and from above. Assumes nothing.
use mathlib.Core.Logic.{◌≢◌}
use mathlib.Core.Path.{◌≡◌, refl, sym, ◌∙◌}
use mathlib.Core.Bool.{Bool, true, false, cond, not, ◌&&◌, ◌||◌, false≢true, and-false}
use Prim.Native.Nat.{ℕ, ◌+◌, ◌*◌, ◌%◌, ◌<◌, ◌≤◌}
use native.Mathlib.Decide.{ℕ_discrete, dec_lt}
use native.Mathlib.Nat.{mod-lt, mul-one}
use native.Mathlib.Omega.{arith}
use lib.Dec.{leb, eqb}
use borrow.Author.Tests.{eq-eqb, ne_eqb, eqb-true, eqb-false, le-leb, lt-leb}
use Rattle.base.proofs.Lists.{and_both}
use Rattle.table.specs.Whole.{down, gap, whole, up, rounds_to}

pub gap_whole : (w e : ℕ) → e % w ≡ 0 → gap w e ≡ 0
unfolding gap whole
gap_whole w e h = simp (eq-eqb (e % w) 0 h)

pub gap_part : (w e : ℕ) → (e % w ≡ 0 → ⊥) → gap w e ≡ 1
unfolding gap whole
gap_part w e h = simp (ne_eqb (e % w) 0 h)

module _ (w e : ℕ) where
  pub gap_le : gap w e ≤ 1
  unfolding gap
  gap_le = go (whole w e)
    where
      go : (b : Bool) → cond b 0 1 ≤ 1
      go true = omega arith
      go false = omega arith

  module _ (n : ℕ) where
    pub rounds_low : rounds_to w e n ≡ true → down w e ≤ n
    unfolding rounds_to
    rounds_low = go (eqb n (down w e)) (whole w e) (eqb n (down w e + 1)) refl refl
      where
        go : (a b c : Bool) → eqb n (down w e) ≡ a → eqb n (down w e + 1) ≡ c → (a || (not b && c)) ≡ true → down w e ≤ n
        go true b c p q h = omega (arith, eqb-true n (down w e) p)
        go false true c p q h = absurd (false≢true h)
        go false false true p q h = omega (arith, eqb-true n (down w e + 1) q)
        go false false false p q h = absurd (false≢true h)

    pub rounds_high : rounds_to w e n ≡ true → n ≤ down w e + gap w e
    unfolding rounds_to gap
    rounds_high = go (eqb n (down w e)) (whole w e) (eqb n (down w e + 1)) refl refl
      where
        go : (a b c : Bool) → eqb n (down w e) ≡ a → eqb n (down w e + 1) ≡ c → (a || (not b && c)) ≡ true → n ≤ down w e + cond b 0 1
        go true b c p q h = omega (arith, eqb-true n (down w e) p)
        go false true c p q h = absurd (false≢true h)
        go false false true p q h = omega (arith, eqb-true n (down w e + 1) q)
        go false false false p q h = absurd (false≢true h)

    pub rounds : down w e ≤ n → n ≤ down w e + gap w e → rounds_to w e n ≡ true
    unfolding rounds_to gap
    rounds l = go (eqb n (down w e)) (whole w e) (eqb n (down w e + 1)) refl refl
      where
        go : (a b c : Bool) → eqb n (down w e) ≡ a → eqb n (down w e + 1) ≡ c → n ≤ down w e + cond b 0 1 → (a || (not b && c)) ≡ true
        go true b c p q h = refl
        go false true c p q h = absurd (eqb-false n (down w e) p (omega arith))
        go false false true p q h = refl
        go false false false p q h =
            let x : n ≢ down w e = eqb-false n (down w e) p in
            absurd (eqb-false n (down w e + 1) q (omega arith))

-- a remainder is at most the gap's share of w
pub rest_le : (w e : ℕ) → 0 < w → e % w ≤ w * gap w e
rest_le w e wp = go (ℕ_discrete (e % w) 0)
  where
    go : Dec (e % w ≡ 0) → e % w ≤ w * gap w e
    go (yes z) = omega arith
    go (no z) = rw (gap_part w e z, mul-one) (omega (arith, mod-lt e wp))

-- a count is an entry rounded down or up exactly if it lies between the two
pub rounds_between : (w e n : ℕ) → rounds_to w e n ≡ (leb (down w e) n && leb n (up w e))
rounds_between w e n = go (rounds_to w e n) refl
  where
    go : (b : Bool) → rounds_to w e n ≡ b → rounds_to w e n ≡ (leb (down w e) n && leb n (up w e))
    go true h = h ∙ sym (and_both (le-leb _ _ (rounds_low w e n h)) (le-leb _ _ (rounds_high w e n h)))
    go false h = h ∙ sym (either (dec_lt n (down w e)) (dec_lt (up w e) n))
      where
        either : Dec (n < down w e) → Dec (up w e < n) → (leb (down w e) n && leb n (up w e)) ≡ false
        either (yes l) m = simp (lt-leb (down w e) n l)
        either (no l) (yes m) = simp (lt-leb n (up w e) m, and-false)
        either (no l) (no m) = absurd (false≢true (sym h ∙ rounds w e n (omega arith) (omega arith)))
