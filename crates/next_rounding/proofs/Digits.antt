-- Numbers and their binary digits, the highest first: the order of numbers is that of their digits at the first difference. Assumes nothing.
use mathlib.Core.Path.{◌≡◌, sym, ap, ◌∙◌}
use Prim.Native.Nat.{ℕ, zero, suc, ◌+◌, ◌-◌, ◌*◌, ◌/◌, ◌^◌, ◌<◌, ◌≤◌}
use native.Mathlib.Nat.{pow-suc, div-eq_of_lt, div-one}
use native.Mathlib.Numerals.{add-one}
use native.Mathlib.Decide.{ℕ_discrete}
use native.Mathlib.Omega.{arith}
use lib.Pow.{shr-shr}
use Rattle.next_rounding.specs.Clauses.{digit, value_of}

-- one digit more
pub value_more : (i : ℕ) (b : ℕ → ℕ) → value_of (i + 1) b ≡ 2 * value_of i b + b i
unfolding value_of
value_more i b = ap (λ (k : ℕ). value_of k b) (add-one i)

pub value_below : (k : ℕ) (b : ℕ → ℕ) → ((i : ℕ) → i < k → b i ≤ 1) → value_of k b < 2 ^ k
unfolding value_of
value_below zero b h = omega arith
value_below (suc k) b h = omega (arith, value_below k b (λ i l. h i (omega arith)), h k (omega arith), pow-suc 2 k)

pub value_same : (k : ℕ) (a b : ℕ → ℕ) → ((i : ℕ) → i < k → a i ≡ b i) → value_of k a ≡ value_of k b
unfolding value_of
value_same zero a b h = omega arith
value_same (suc k) a b h = omega (arith, value_same k a b (λ i l. h i (omega arith)), h k (omega arith))

-- at the first difference the smaller number has the smaller digit
pub value_less : (k : ℕ) (a b : ℕ → ℕ) (j : ℕ) → j < k → ((i : ℕ) → i < k → a i ≤ 1) → ((i : ℕ) → i < j → a i ≡ b i) → a j < b j → value_of k a < value_of k b
unfolding value_of
value_less zero a b j l h same less = absurd (omega arith)
value_less (suc k) a b j l h same less = go (ℕ_discrete j k) (λ q. value_less k a b j q (λ i p. h i (omega arith)) same less)
  where
    go : Dec (j ≡ k) → (j < k → value_of k a < value_of k b) → 2 * value_of k a + a k < 2 * value_of k b + b k
    go (yes e) next =
        let at : a k < b k = rw e at less in
        omega (arith, at, value_same k a b (λ i q. same i (omega arith)))
    go (no e) next = omega (arith, next (omega arith), h k (omega arith))

-- the digits of a number give it, and those of a value are the given ones
value_digits : (k x : ℕ) → x < 2 ^ k → (i : ℕ) → i ≤ k → value_of i (digit k x) ≡ x / 2 ^ (k - i)
unfolding value_of
value_digits k x h zero l = let e : k - 0 ≡ k = omega arith in rw e (sym (div-eq_of_lt h))
value_digits k x h (suc i) l =
    let e : k - i ≡ k - 1 - i + 1 = omega arith in
    let f : k - suc i ≡ k - 1 - i = omega arith in
    let before : value_of i (digit k x) ≡ x / 2 ^ (k - 1 - i + 1) = rw e at (value_digits k x h i (omega arith)) in
    let half : x / 2 ^ (k - 1 - i) / 2 ≡ x / 2 ^ (k - 1 - i + 1) = shr-shr x (k - 1 - i) 1 in
    rw f (omega (arith, before, half))

pub value_of_digits : (k x : ℕ) → x < 2 ^ k → value_of k (digit k x) ≡ x
value_of_digits k x h =
    let e : k - k ≡ 0 = omega arith in
    let f : value_of k (digit k x) ≡ x / 2 ^ 0 = rw e at (value_digits k x h k (omega arith)) in
    f ∙ div-one x

module _ (b : ℕ → ℕ) where
  value_high : (k : ℕ) → ((i : ℕ) → i < k → b i ≤ 1) → (i : ℕ) → i ≤ k → value_of k b / 2 ^ (k - i) ≡ value_of i b
  unfolding value_of
  value_high zero h i l = let e : i ≡ 0 = omega arith in rw e (div-one 0)
  value_high (suc k) h i l = go (ℕ_discrete i (suc k)) (λ q. value_high k (λ j p. h j (omega arith)) i q)
    where
      go : Dec (i ≡ suc k) → (i ≤ k → value_of k b / 2 ^ (k - i) ≡ value_of i b) → value_of (suc k) b / 2 ^ (suc k - i) ≡ value_of i b
      go (yes e) next = let z : suc k - suc k ≡ 0 = omega arith in rw (e, z) (div-one (value_of (suc k) b))
      go (no e) next =
          let z : suc k - i ≡ 1 + (k - i) = omega arith in
          let half : (2 * value_of k b + b k) / 2 ≡ value_of k b = omega (arith, h k (omega arith)) in
          rw z (sym (shr-shr (2 * value_of k b + b k) 1 (k - i)) ∙ ap (λ (v : ℕ). v / 2 ^ (k - i)) half ∙ next (omega arith))

  pub digits_of_value : (k : ℕ) → ((i : ℕ) → i < k → b i ≤ 1) → (i : ℕ) → i < k → digit k (value_of k b) i ≡ b i
  unfolding value_of
  digits_of_value k h i l =
      let e : k - suc i ≡ k - 1 - i = omega arith in
      let high : value_of k b / 2 ^ (k - 1 - i) ≡ 2 * value_of i b + b i = rw e at (value_high k h (suc i) l) in
      omega (arith, high, h i l)
