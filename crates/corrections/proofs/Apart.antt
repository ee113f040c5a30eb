-- One number that is a whole multiple of w and a natural apart: its rounding is that of the natural, with the multiple added. Assumes nothing.
use mathlib.Core.Path.{◌≡◌, refl, sym, ap, ap₂, ◌∙◌}
use mathlib.Core.Bool.{Bool, true, false, cond, not, ◌&&◌, ◌||◌, false≢true}
use Prim.Native.Nat.{ℕ, suc, ◌+◌, ◌-◌, ◌/◌, ◌%◌, ◌<◌, ◌≤◌}
use native.Mathlib.Decide.{dec_le, dec_lt, ℕ_discrete}
use native.Mathlib.Omega.{arith}
use borrow.Author.Tests.{le-leb, lt-leb, leb-true, eq-eqb, ne_eqb}
use lib.Dec.{leb, eqb}
use lib.IntN.{ℤ, pos, negsuc, nat_abs, ◌+ℤ◌, ◌-ℤ◌, ◌*ℤ◌, +ℤ_assoc, +ℤ_comm, +ℤ-neg_ℤ_cancel}
use lib.Signed.{le_z, le_z_yes, ◌<ℤ◌, clash_ℤ}
use Rattle.base.proofs.Lists.{and_left, and_right}
use Rattle.base.proofs.Differences.{sub_below, sub_above}
use Rattle.division.proofs.Meanings.{down_apart, rest_apart}
use Rattle.table.specs.Whole as natural
use Rattle.corrections.specs.Rounding.{whole, up, same, rounds_to}

-- adding one number to two keeps their order
le_same : (a b c d : ℕ) → (a ≤ b → c ≤ d) → (b < a → d < c) → leb a b ≡ leb c d
le_same a b c d f g = go (dec_le a b)
  where
    go : Dec (a ≤ b) → leb a b ≡ leb c d
    go (yes h) = le-leb a b h ∙ sym (le-leb c d (f h))
    go (no h) = let l : b < a = omega arith in lt-leb a b l ∙ sym (lt-leb c d (g l))

le_added : (q : ℤ) (n m : ℕ) → le_z (q +ℤ pos n) (q +ℤ pos m) ≡ leb n m
le_added (pos x) n m = le_same (x + n) (x + m) n m (λ h. omega arith) (λ h. omega arith)
le_added (negsuc x) n m = go (dec_lt n (suc x)) (dec_lt m (suc x))
  where
    go : Dec (n < suc x) → Dec (m < suc x) → le_z (negsuc x +ℤ pos n) (negsuc x +ℤ pos m) ≡ leb n m
    go (yes h) (yes k) = ap₂ le_z (sub_below n (suc x) h) (sub_below m (suc x) k) ∙ le_same (suc x - suc m) (suc x - suc n) n m (λ l. omega arith) (λ l. omega arith)
    go (yes h) (no k) = ap₂ le_z (sub_below n (suc x) h) (sub_above m (suc x) (omega arith)) ∙ sym (le-leb n m (omega arith))
    go (no h) (yes k) = ap₂ le_z (sub_above n (suc x) (omega arith)) (sub_below m (suc x) k) ∙ sym (lt-leb n m (omega arith))
    go (no h) (no k) = ap₂ le_z (sub_above n (suc x) (omega arith)) (sub_above m (suc x) (omega arith)) ∙ le_same (n - suc x) (m - suc x) n m (λ l. omega arith) (λ l. omega arith)

same_added : (q : ℤ) (n m : ℕ) → same (q +ℤ pos n) (q +ℤ pos m) ≡ eqb n m
same_added q n m = ap₂ ◌&&◌ (le_added q n m) (le_added q m n) ∙ go (ℕ_discrete n m)
  where
    go : Dec (n ≡ m) → (leb n m && leb m n) ≡ eqb n m
    go (yes e) = simp (le-leb n m (omega arith), le-leb m n (omega arith), eq-eqb n m e)
    go (no e) = apart (dec_le n m)
      where
        apart : Dec (n ≤ m) → (leb n m && leb m n) ≡ eqb n m
        apart (yes h) = let l : n < m = omega arith in simp (le-leb n m h, lt-leb m n l, ne_eqb n m e)
        apart (no h) = let l : m < n = omega arith in simp (lt-leb n m l, ne_eqb n m e)

pub less_added : (q : ℤ) (n m : ℕ) → (q +ℤ pos n) <ℤ (q +ℤ pos m) → n < m
less_added q n m h = go (dec_le m n)
  where
    go : Dec (m ≤ n) → n < m
    go (yes l) = let t : le_z (q +ℤ pos m) (q +ℤ pos n) ≡ true = le_added q m n ∙ le-leb m n l in clash_ℤ h (le_z_yes (rw t tt))
    go (no l) = omega arith

back_added : (q : ℤ) (n : ℕ) → nat_abs (q +ℤ pos n -ℤ q) ≡ n
back_added q n = ap (λ (z : ℤ). nat_abs (z -ℤ q)) (+ℤ_comm q (pos n)) ∙ ap nat_abs (+ℤ-neg_ℤ_cancel (pos n) q)

pub same_counts : (q : ℤ) (n m : ℕ) → q +ℤ pos n ≡ q +ℤ pos m → n ≡ m
same_counts q n m e = sym (back_added q n) ∙ ap (λ (z : ℤ). nat_abs (z -ℤ q)) e ∙ back_added q m

-- numbers that are the same are equal
same_equal : (x y : ℤ) → same x y ≡ true → x ≡ y
same_equal (pos a) (pos b) h = ap pos (omega (arith, leb-true a b (and_left (leb a b) (leb b a) h), leb-true b a (and_right (leb a b) (leb b a) h)))
same_equal (pos a) (negsuc b) h = absurd (false≢true h)
same_equal (negsuc a) (pos b) h = absurd (false≢true h)
same_equal (negsuc a) (negsuc b) h = ap negsuc (omega (arith, leb-true b a (and_left (leb b a) (leb a b) h), leb-true a b (and_right (leb b a) (leb a b) h)))

module _ {w : ℕ} (h : 0 < w) (q : ℤ) (e : ℕ) where
  pub rounds_apart : (n : ℕ) → rounds_to w (q *ℤ pos w +ℤ pos e) (q +ℤ pos n) ≡ natural.rounds_to w e n
  unfolding rounds_to natural.rounds_to natural.whole
  rounds_apart n = rw (down_apart w h q e, rest_apart w h q e, +ℤ_assoc q (pos (e / w)) (pos 1), same_added q n (e / w), same_added q n (e / w + 1)) refl

  pub up_apart : up w (q *ℤ pos w +ℤ pos e) ≡ q +ℤ pos (natural.up w e)
  unfolding natural.gap natural.whole
  up_apart = rw (down_apart w h q e, rest_apart w h q e) (+ℤ_assoc q (pos (e / w)) (pos (cond (eqb (e % w) 0) 0 1)))

  -- what it is rounded to is a natural more than the multiple
  pub rounds_more : (y : ℤ) → rounds_to w (q *ℤ pos w +ℤ pos e) y ≡ true → y ≡ q +ℤ pos (nat_abs (y -ℤ q))
  unfolding rounds_to
  rounds_more y = rw (down_apart w h q e, +ℤ_assoc q (pos (e / w)) (pos 1)) (go (same y (q +ℤ pos (e / w))) (same y (q +ℤ pos (e / w + 1))) (not (whole w (q *ℤ pos w +ℤ pos e))) refl refl)
    where
      found : (n : ℕ) → same y (q +ℤ pos n) ≡ true → y ≡ q +ℤ pos (nat_abs (y -ℤ q))
      found n t = let is = same_equal y (q +ℤ pos n) t in is ∙ ap (λ (m : ℕ). q +ℤ pos m) (sym (ap (λ (z : ℤ). nat_abs (z -ℤ q)) is ∙ back_added q n))

      go : (a b c : Bool) → same y (q +ℤ pos (e / w)) ≡ a → same y (q +ℤ pos (e / w + 1)) ≡ b → (a || (c && b)) ≡ true → y ≡ q +ℤ pos (nat_abs (y -ℤ q))
      go true b c s t k = found (e / w) s
      go false true true s t k = found (e / w + 1) t
      go false false true s t k = absurd (false≢true k)
      go false b false s t k = absurd (false≢true k)
