-- Laws on numbers as sets. Assumes nothing.
use mathlib.Core.Path.{◌≡◌, refl, sym, ap, ◌∙◌}
use Prim.Native.Nat.{ℕ, zero, suc, ◌+◌, ◌-◌, ◌*◌, ◌/◌, ◌%◌, ◌^◌, ◌≤◌, ◌<◌, min, max}
use native.Mathlib.Nat.{pow-suc, pow-succ', div-div-eq-div-mul, div-eq_of_lt, lt_of_not-le}
use native.Mathlib.Decide.{ℕ_discrete}
use native.Mathlib.Omega.{arith}
use lib.Bits.{bit_and, bit_or, bit_xor, differ, and_shr, or_shr, xor_shr, and_step, or_step, xor_step, and_self, and_le_r, xor_zero_r, xor_lt}
use lib.Count.{under, count_trailing_zeros}
use lib.Pow.{pow_pos, pow_mono}
use Rattle.sets.specs.Clauses.{ind, on, Single, Some, Without, Rest, With, Minus}
use Rattle.sets.proofs.Indicators.{ind_same, ind_other}

pub on_le : (x i : ℕ) → on x i ≤ 1
unfolding on
on_le x i = omega arith

on_first : (x : ℕ) → on x 0 ≡ x % 2
unfolding on
on_first x = omega arith

on_suc : (x i : ℕ) → on x (suc i) ≡ on (x / 2) i
unfolding on
on_suc x i = ap (λ (n : ℕ). n % 2) (ap (λ (n : ℕ). x / n) (pow-succ' 2 i) ∙ sym (div-div-eq-div-mul x 2 (2 ^ i)))

pub on_zero : (i : ℕ) → on 0 i ≡ 0
on_zero zero = on_first 0
on_zero (suc i) = on_suc 0 i ∙ on_zero i

-- a set with a member is not 0
on_pos : (x i : ℕ) → on x i ≡ 1 → 0 < x
on_pos zero i e = absurd (omega (arith, on_zero i))
on_pos (suc x) i e = omega arith

pub on_and : (a b i : ℕ) → on (bit_and a b) i ≡ min (on a i) (on b i)
unfolding on
on_and a b i = omega (arith, and_shr a b i, and_step (a / 2 ^ i) (b / 2 ^ i))

pub on_or : (a b i : ℕ) → on (bit_or a b) i ≡ max (on a i) (on b i)
unfolding on
on_or a b i = omega (arith, or_shr a b i, or_step (a / 2 ^ i) (b / 2 ^ i))

differ_small : (x y : ℕ) → x ≤ 1 → y ≤ 1 → differ x y ≤ 1
differ_small zero y h k = k
differ_small (suc x) zero h k = h
differ_small (suc zero) (suc zero) h k = omega arith
differ_small (suc zero) (suc (suc y)) h k = absurd (omega arith)
differ_small (suc (suc x)) (suc y) h k = absurd (omega arith)

differ_sub : (x y : ℕ) → x ≤ 1 → y ≤ x → differ x y + y ≡ x
differ_sub zero y h k = omega arith
differ_sub (suc x) zero h k = omega arith
differ_sub (suc zero) (suc zero) h k = refl
differ_sub (suc zero) (suc (suc y)) h k = absurd (omega arith)
differ_sub (suc (suc x)) (suc y) h k = absurd (omega arith)

on_xor : (a b i : ℕ) → on (bit_xor a b) i ≡ differ (on a i) (on b i)
unfolding on
on_xor a b i =
    omega (arith, xor_shr a b i, xor_step (a / 2 ^ i) (b / 2 ^ i), differ_small (a / 2 ^ i % 2) (b / 2 ^ i % 2) (omega arith) (omega arith))

half_pow : (i : ℕ) → 2 ^ suc i / 2 ≡ 2 ^ i
half_pow i = let e = pow-suc 2 i in omega arith

even_pow : (i : ℕ) → 2 ^ suc i % 2 ≡ 0
even_pow i = let e = pow-suc 2 i in omega arith

on_pow_same : (i : ℕ) → on (2 ^ i) i ≡ 1
on_pow_same zero = on_first 1
on_pow_same (suc i) = on_suc (2 ^ suc i) i ∙ ap (λ (n : ℕ). on n i) (half_pow i) ∙ on_pow_same i

on_pow_other : (i j : ℕ) → (j ≡ i → ⊥) → on (2 ^ i) j ≡ 0
on_pow_other zero zero n = absurd (n refl)
on_pow_other zero (suc j) n = on_suc 1 j ∙ on_zero j
on_pow_other (suc i) zero n = on_first (2 ^ suc i) ∙ even_pow i
on_pow_other (suc i) (suc j) n = on_suc (2 ^ suc i) j ∙ ap (λ (m : ℕ). on m j) (half_pow i) ∙ on_pow_other i j (λ e. n (ap suc e))

on_pow : (i j : ℕ) → on (2 ^ i) j ≡ ind j i
on_pow i j = go (ℕ_discrete j i)
  where
    go : Dec (j ≡ i) → on (2 ^ i) j ≡ ind j i
    go (yes e) = rw (e, ind_same i) (on_pow_same i)
    go (no n) = rw (ind_other j i n) (on_pow_other i j n)

differ_none : (x : ℕ) → differ x 0 ≡ x
differ_none zero = refl
differ_none (suc x) = refl

drop_lt : (i x : ℕ) → on x i ≡ 1 → bit_xor x (2 ^ i) < x
drop_lt zero x e =
    let o : x % 2 ≡ 1 = sym (on_first x) ∙ e in
    let d : differ (x % 2) 1 ≡ 0 = ap (λ (n : ℕ). differ n 1) o in
    let s : bit_xor x 1 ≡ bit_xor (x / 2) 0 * 2 + differ (x % 2) 1 = xor_step x 1 in
    omega (arith, xor_zero_r (x / 2))
drop_lt (suc i) x e =
    let h : bit_xor (x / 2) (2 ^ i) < x / 2 = drop_lt i (x / 2) (sym (on_suc x i) ∙ e) in
    let s : bit_xor x (2 ^ suc i) ≡ bit_xor (x / 2) (2 ^ i) * 2 + x % 2 = simp (half_pow, even_pow, differ_none) at (xor_step x (2 ^ suc i)) in
    omega arith

pub single_is : (i : ℕ) → i < 13 → Single i (2 ^ i)
single_is i h = record { value = refl; small = let l : 2 ^ i ≤ 2 ^ 12 = pow_mono {j = 12} (omega arith) in omega arith; is = on_pow i }

-- the lowest digit that is set, and those below it
lowest : (k x : ℕ) → 0 < x → x < 2 ^ k → on x (count_trailing_zeros k x) ≡ 1
unfolding count_trailing_zeros
lowest zero x p h = absurd (omega arith)
lowest (suc k) x p h = go (λ q. lowest k (x / 2) q (let e = pow-suc 2 k in omega arith)) (x % 2) refl
  where
    go : (0 < x / 2 → on (x / 2) (count_trailing_zeros k (x / 2)) ≡ 1) → (d : ℕ) → x % 2 ≡ d → on x (under d (count_trailing_zeros k (x / 2))) ≡ 1
    go rest zero e = on_suc x (count_trailing_zeros k (x / 2)) ∙ rest (omega arith)
    go rest (suc d) e = on_first x ∙ omega arith

lower : (k x j : ℕ) → j < count_trailing_zeros k x → on x j ≡ 0
unfolding count_trailing_zeros
lower zero x j h = absurd (omega arith)
lower (suc k) x j h = go (λ i. lower k (x / 2) i) (x % 2) refl j h
  where
    go : ((i : ℕ) → i < count_trailing_zeros k (x / 2) → on (x / 2) i ≡ 0) → (d : ℕ) → x % 2 ≡ d → (i : ℕ) → i < under d (count_trailing_zeros k (x / 2)) → on x i ≡ 0
    go rest zero e zero l = on_first x ∙ e
    go rest zero e (suc i) l = on_suc x i ∙ rest i (omega arith)
    go rest (suc d) e i l = absurd (omega arith)

pub some_is : (x : ℕ) → 0 < x → x < 8192 → Some x (count_trailing_zeros 32 x)
unfolding on
some_is x p h =
    let r = count_trailing_zeros 32 x in
    let is : on x r ≡ 1 = lowest 32 x p (omega arith) in
    let none : 13 ≤ r → x / 2 ^ r ≡ 0 = λ l. let y : 2 ^ 13 ≤ 2 ^ r = pow_mono l in div-eq_of_lt (omega arith) in
    record { below = lt_of_not-le (λ l. let z = none l in omega arith); is = is; first = lower 32 x }

-- a set that is not empty has a member
pub nonempty : (x : ℕ) → 0 < x → x < 8192 → (r : ℕ) × Some x r
nonempty x p h = (count_trailing_zeros 32 x, some_is x p h)

pub without_is : (x i : ℕ) → on x i ≡ 1 → Without x i (bit_xor x (2 ^ i))
without_is x i e = record {
  less = drop_lt i x e;
  is = λ j. go j (ℕ_discrete j i);
}
  where
    le : (j : ℕ) → Dec (j ≡ i) → on (2 ^ i) j ≤ on x j
    le j (yes q) = rw q (omega (arith, on_pow i i, ind_same i))
    le j (no n) = omega (arith, on_pow i j, ind_other j i n)

    go : (j : ℕ) → Dec (j ≡ i) → on (bit_xor x (2 ^ i)) j + ind j i ≡ on x j
    go j d = omega (arith, on_xor x (2 ^ i) j, on_pow i j, differ_sub (on x j) (on (2 ^ i) j) (on_le x j) (le j d))

-- subtracting 1 changes the lowest digit that is set and those below it
and_before : (i x : ℕ) → on x i ≡ 1 → ((j : ℕ) → j < i → on x j ≡ 0) → bit_and x (x - 1) ≡ bit_xor x (2 ^ i)
and_before zero x e low =
    let o : x % 2 ≡ 1 = sym (on_first x) ∙ e in
    let d : differ (x % 2) 1 ≡ 0 = ap (λ (n : ℕ). differ n 1) o in
    let h : (x - 1) / 2 ≡ x / 2 = omega arith in
    let a : bit_and x (x - 1) ≡ bit_and (x / 2) (x / 2) * 2 + min (x % 2) ((x - 1) % 2) = rw h at (and_step x (x - 1)) in
    let s : bit_xor x 1 ≡ bit_xor (x / 2) 0 * 2 + differ (x % 2) 1 = xor_step x 1 in
    omega (arith, and_self (x / 2), xor_zero_r (x / 2))
and_before (suc i) x e low =
    let o : x % 2 ≡ 0 = sym (on_first x) ∙ low 0 (omega arith) in
    let f : on (x / 2) i ≡ 1 = sym (on_suc x i) ∙ e in
    let p : 0 < x / 2 = on_pos (x / 2) i f in
    let h : (x - 1) / 2 ≡ x / 2 - 1 = omega arith in
    let a : bit_and x (x - 1) ≡ bit_and (x / 2) (x / 2 - 1) * 2 + min (x % 2) ((x - 1) % 2) = rw h at (and_step x (x - 1)) in
    let s : bit_xor x (2 ^ suc i) ≡ bit_xor (x / 2) (2 ^ i) * 2 + x % 2 = simp (half_pow, even_pow, differ_none) at (xor_step x (2 ^ suc i)) in
    omega (arith, and_before i (x / 2) f (λ j l. sym (on_suc x j) ∙ low (suc j) (omega arith)))

pub rest_is : (x : ℕ) → 0 < x → Rest x (bit_and x (x - 1))
rest_is x p = record { less = omega (arith, and_le_r x (x - 1)); is = λ i s. rw (and_before i x s.is s.first) (without_is x i s.is) }

pub with_is : (x i : ℕ) → on x i ≡ 0 → With x i (bit_or x (2 ^ i))
with_is x i e = record { is = λ j. go j (ℕ_discrete j i) }
  where
    go : (j : ℕ) → Dec (j ≡ i) → on (bit_or x (2 ^ i)) j ≡ on x j + ind j i
    go j (yes q) = rw q (omega (arith, on_or x (2 ^ i) i, on_pow i i, ind_same i))
    go j (no n) = omega (arith, on_or x (2 ^ i) j, on_pow i j, ind_other j i n)

pub minus_is : (a b : ℕ) → a < 8192 → b < 8192 → ((j : ℕ) → on b j ≤ on a j) → Minus a b (bit_xor a b)
minus_is a b ha hb le = record {
  small = xor_lt 13 a b ha hb;
  is = λ j. omega (arith, on_xor a b j, differ_sub (on a j) (on b j) (on_le a j) (le j));
}

-- the set of all
pub on_all : (j : ℕ) → j < 13 → on 8191 j ≡ 1
on_all j h = all 13 j h
  where
    ones : (n : ℕ) → (2 ^ suc n - 1) / 2 ≡ 2 ^ n - 1
    ones n = let e = pow-suc 2 n in let p = pow_pos n in omega arith

    all : (n i : ℕ) → i < n → on (2 ^ n - 1) i ≡ 1
    all zero i l = absurd (omega arith)
    all (suc n) zero l = on_first (2 ^ suc n - 1) ∙ (let e = pow-suc 2 n in let p = pow_pos n in omega arith)
    all (suc n) (suc i) l = on_suc (2 ^ suc n - 1) i ∙ ap (λ (x : ℕ). on x i) (ones n) ∙ all n i (omega arith)
