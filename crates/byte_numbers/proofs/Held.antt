-- The bytes of a number: how many they are, how they split, and where the number is read back. Assumes nothing.
use mathlib.Core.Path.{◌≡◌, refl, sym, ap, ◌∙◌}
use mathlib.Core.List.{List, [], ◌∷◌, ◌++◌}
use Prim.Native.Nat.{ℕ, zero, suc, ◌+◌, ◌*◌, ◌/◌, ◌%◌, ◌^◌, ◌<◌}
use native.Mathlib.Nat.{add-zero, zero-add, suc-add, mul_comm, pow-zero, pow-suc, pow-succ', one-le-pow, div-one, div-div-eq-div-mul, div-lt_iff_lt-mul}
use native.Mathlib.Omega.{arith}
use lib.Arith.{mod-mul, digits_div}
use lib.ListN.{length, get_or}
use Rattle.base.specs.Lists.{join_to}
use Rattle.base.proofs.Joins.{length_join, Holds, holds_right}
use Rattle.byte_numbers.specs.Bytes.{bytes, number}

pub length_bytes : (n x : ℕ) → length (bytes n x) ≡ n
unfolding bytes
length_bytes zero x = refl
length_bytes (suc n) x = ap suc (length_bytes n (x / 256))

-- the low m bytes of a number, and the n above them
pub bytes_split : (m n x : ℕ) → bytes m (x % 256 ^ m) ++ bytes n (x / 256 ^ m) ≡ bytes (m + n) x
unfolding bytes
bytes_split zero n x = simp (pow-zero, div-one, zero-add)
bytes_split (suc m) n x =
    let some : 0 < 256 ^ m = one-le-pow m 256 (omega arith) in
    let low : x % 256 ^ suc m ≡ x / 256 % 256 ^ m * 256 + x % 256 = rw (pow-suc 256 m) (mod-mul x some (omega arith)) in
    let byte : x % 256 ^ suc m % 256 ≡ x % 256 = omega (arith, low) in
    let above : x % 256 ^ suc m / 256 ≡ x / 256 % 256 ^ m = ap (λ (y : ℕ). y / 256) low ∙ digits_div (x / 256 % 256 ^ m) (omega arith) in
    let high : x / 256 ^ suc m ≡ x / 256 / 256 ^ m = rw (pow-succ' 256 m) (sym (div-div-eq-div-mul x 256 (256 ^ m))) in
    rw (suc-add m n, byte, above, high) (ap (λ l. x % 256 ∷ l) (bytes_split m n (x / 256)))

-- a number that fits its bytes is read where they stand
pub number_held : (n : ℕ) {b : List ℕ} {at x : ℕ} → Holds b at (bytes n x) → x < 256 ^ n → number n b at ≡ x
unfolding bytes number
number_held zero h l = omega arith
number_held (suc n) {b} {at} {x} h l =
    let low : get_or b at 0 ≡ x % 256 = rw (add-zero at) at (h.is 0 (omega arith)) in
    let less : x / 256 < 256 ^ n = (div-lt_iff_lt-mul {k = 256} (omega arith)).1 (rw (pow-suc 256 n) at l) in
    omega (arith, number_held n (holds_right (x % 256 ∷ []) h refl) less)

-- n numbers of w bytes each
pub length_numbers : (n w : ℕ) (f : ℕ → ℕ) → length (join_to n (λ i. bytes w (f i))) ≡ w * n
length_numbers n w f = length_join n w _ (λ i. length_bytes w (f i)) ∙ mul_comm n w
