-- Laws on the least common multiple. Assumes nothing.
use mathlib.Core.Path.{◌≡◌, sym, subst, ◌∙◌, ap}
use mathlib.Core.Bool.{true, false≢true}
use Prim.Native.Nat.{ℕ, ◌*◌, ◌/◌, ◌%◌, ◌<◌, ◌≤◌, ◌∣◌}
use native.Mathlib.Nat.{dvd-mul_left, dvd-mul_right, dvd_trans, pos_of_dvd_of_pos, mul-dvd-mul_left, mul-dvd-mul_right, dvd_of_mul-dvd-mul_left, dvd_of_mul-dvd-mul_right, mul-div_cancel', div-mul_cancel, mul_comm, mul_assoc, mul-pos, le_of_dvd, mod-eq-zero_of_dvd, dvd_of_mod-eq-zero}
use native.Mathlib.Decide.{dec_lt}
use native.Mathlib.Omega.{arith}
use lib.Dec.{eqb}
use borrow.Author.Tests.{eq-eqb, eqb-true}
use Rattle.base.proofs.Lists.{and_left, and_right, and_both}
use Rattle.base.proofs.Searches.{First, first_found}
use Rattle.std.specs.Int.{IsGcd}
use Rattle.multiples.specs.Multiple.{common, least_multiple, LeastMultiple}
use Rattle.multiples.specs.Clauses.{Multipliable}
use Rattle.multiples.proofs.Divisors.{greatest_exists}

-- the test of a common multiple
module _ (a b n : ℕ) where
  common_yes : a ∣ n → b ∣ n → common a b n ≡ true
  common_yes h k = and_both (eq-eqb (n % a) 0 (mod-eq-zero_of_dvd a h)) (eq-eqb (n % b) 0 (mod-eq-zero_of_dvd b k))

  common_first : common a b n ≡ true → a ∣ n
  common_first h = dvd_of_mod-eq-zero a (eqb-true (n % a) 0 (and_left (eqb (n % a) 0) (eqb (n % b) 0) h))

  common_second : common a b n ≡ true → b ∣ n
  common_second h = dvd_of_mod-eq-zero b (eqb-true (n % b) 0 (and_right (eqb (n % a) 0) (eqb (n % b) 0) h))

module _ (a b : ℕ) (pa : 0 < a) (pb : 0 < b) where
  product_positive : 0 < a * b
  product_positive = mul-pos pa pb

  -- what the search finds
  found : First (common a b) 1 (least_multiple a b)
  unfolding least_multiple
  found = first_found (common a b) 1 (a * b) (a * b) product_positive (omega arith) (common_yes a b (a * b) (dvd-mul_right a b) (dvd-mul_left b a))

  -- nothing that both divide is below it
  found_least : (n : ℕ) → 1 ≤ n → a ∣ n → b ∣ n → least_multiple a b ≤ n
  found_least n h da db = go (dec_lt n (least_multiple a b))
    where
      go : Dec (n < least_multiple a b) → least_multiple a b ≤ n
      go (yes l) = absurd (false≢true (sym (found.none_before n h l) ∙ common_yes a b n da db))
      go (no l) = omega arith

  pub is_least : LeastMultiple a b (least_multiple a b)
  is_least = record {
    some = found.from;
    first = common_first a b _ found.passes;
    second = common_second a b _ found.passes;
    least = found_least;
  }

  module _ (g : ℕ) (gr : IsGcd a b g) where
    pub divisor_positive : 0 < g
    divisor_positive = pos_of_dvd_of_pos gr.0 pa

    -- (a / g * b) * g is a * b
    times : a / g * b * g ≡ a * b
    times = mul_assoc (a / g) b g ∙ ap (λ (x : ℕ). a / g * x) (mul_comm b g) ∙ sym (mul_assoc (a / g) g b) ∙ ap (λ (x : ℕ). x * b) (div-mul_cancel g gr.0)

    -- a * b divides m * g, for a multiple m of both
    into : (m : ℕ) → 0 < m → a ∣ m → b ∣ m → a * b ∣ m * g
    into m pm am bm =
        let e = greatest_exists (m * a) (m * b) in
        let h : ℕ = e.0 in
        let gh : IsGcd (m * a) (m * b) h = e.1 in
        let mh : m ∣ h = gh.2 m (dvd-mul_right m a) (dvd-mul_right m b) in
        let eq : m * (h / m) ≡ h = mul-div_cancel' m mh in
        let ka : h / m ∣ a = dvd_of_mul-dvd-mul_left (h / m) pm (subst (λ (x : ℕ). x ∣ m * a) (sym eq) gh.0) in
        let kb : h / m ∣ b = dvd_of_mul-dvd-mul_left (h / m) pm (subst (λ (x : ℕ). x ∣ m * b) (sym eq) gh.1) in
        let kg : h / m ∣ g = gr.2 (h / m) ka kb in
        let hmg : h ∣ m * g = subst (λ (x : ℕ). x ∣ m * g) eq (mul-dvd-mul_left (h / m) m kg) in
        let aba : a * b ∣ m * a = subst (λ (x : ℕ). x ∣ m * a) (mul_comm b a) (mul-dvd-mul_right b bm a) in
        let abb : a * b ∣ m * b = mul-dvd-mul_right a am b in
        dvd_trans (a * b) (gh.2 (a * b) aba abb) hmg

    -- a / g * b is a common multiple from 1 on
    again : a * (b / g) ≡ a / g * b
    again = ap (λ (x : ℕ). x * (b / g)) (sym (div-mul_cancel g gr.0)) ∙ mul_assoc (a / g) g (b / g) ∙ ap (λ (x : ℕ). a / g * x) (mul-div_cancel' g gr.1)

    positive : 0 < a / g * b
    positive = pos_of_dvd_of_pos (subst (λ (x : ℕ). a / g * b ∣ x) times (dvd-mul_right (a / g * b) g)) product_positive

    -- so the search finds just this number
    pub formula_is : a / g * b ≡ least_multiple a b
    formula_is =
        let m = least_multiple a b in
        let below : m ≤ a / g * b = found_least (a / g * b) positive (subst (λ (x : ℕ). a ∣ x) again (dvd-mul_right a (b / g))) (dvd-mul_left b (a / g)) in
        let divides : a / g * b ∣ m = dvd_of_mul-dvd-mul_right (a / g * b) divisor_positive
        (subst (λ (x : ℕ). x ∣ m * g) (sym times) (into m is_least.some is_least.first is_least.second)) in
        let above : a / g * b ≤ m = le_of_dvd is_least.some divides in
        omega arith

  -- it is at most the product
  pub multiple_small : least_multiple a b ≤ a * b
  multiple_small = found_least (a * b) product_positive (dvd-mul_right a b) (dvd-mul_left b a)

-- what the code of `lcm` asks
module _ {a b g : ℕ} (s : Multipliable a b) (gr : IsGcd a b g) where
  pub divides : 0 < g
  divides = divisor_positive a b s.some_first s.some_second g gr

  pub formula : a / g * b ≡ least_multiple a b
  formula = formula_is a b s.some_first s.some_second g gr
