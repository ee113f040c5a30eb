-- Bits in a list of bytes: one bit set, all zero, and as the code reads, counts and sets them. Assumes nothing.
use mathlib.Core.Path.{◌≡◌, sym, ap, ◌∙◌}
use mathlib.Core.Bool.{cond}
use mathlib.Core.List.{List}
use Prim.Native.Nat.{ℕ, zero, suc, ◌+◌, ◌-◌, ◌*◌, ◌/◌, ◌%◌, ◌^◌, ◌<◌, ◌≤◌}
use native.Mathlib.Nat.{not-suc-le-zero, pow-suc, pow-succ', div-div-eq-div-mul, zero-div}
use native.Mathlib.Decide.{ℕ_discrete}
use native.Mathlib.Omega.{arith}
use Rattle.std.specs.Int.{div_ceil}
use Rattle.std.proofs.lemmas.Bool.Decides.{nat_tests}
use lib.ListN.{length, get_or, set, replicate, length-replicate, get_or-replicate}
use lib.Dec.{eqb, eqb-suc-suc, eqb-zero-suc, eqb-suc-zero}
use lib.Seq.{get_or-set_same, get_or-set_other}
use borrow.Author.Tests.{eq-eqb, ne_eqb}
use Rattle.base.specs.Buffers.{written}
use Rattle.bits.specs.Bits.{bit_of, bit_bytes, spare_clear}
use Rattle.base.proofs.Buffers.{written_at}
use lib.Pow.{pow_mono}
use mir.Val.{Fits}
use mir.Syntax.{w8, w32}
use Rattle.base.proofs.Every.{sum_none}
use Rattle.base.proofs.SumLoops.{Summed, summed_more}
use Rattle.bits.specs.Clauses.{bits_set}

-- bit k of a number
unfoldable bit : ℕ → ℕ → ℕ
bit x k = x / 2 ^ k % 2

bit_first : (x : ℕ) → bit x 0 ≡ x % 2
unfolding bit
bit_first x = omega arith

bit_next : (x k : ℕ) → bit x (suc k) ≡ bit (x / 2) k
unfolding bit
bit_next x k = ap (λ (n : ℕ). n % 2) (ap (λ (n : ℕ). x / n) (pow-succ' 2 k) ∙ sym (div-div-eq-div-mul x 2 (2 ^ k)))

-- 2 ^ k added to a number whose bit k is 0
bit_added : (k j x : ℕ) → bit x k ≡ 0 → bit (x + 2 ^ k) j ≡ cond (eqb k j) 1 (bit x j)
bit_added zero zero x h = rw bit_first (omega (arith, bit_first x))
bit_added zero (suc j) x h = rw (eqb-zero-suc j, bit_next (x + 1) j, bit_next x j) (ap (λ (n : ℕ). bit n j) (omega (arith, bit_first x)))
bit_added (suc k) zero x h = rw (eqb-suc-zero k, bit_first (x + 2 ^ suc k), bit_first x) (omega (arith, pow-suc 2 k))
bit_added (suc k) (suc j) x h =
    bit_next (x + 2 ^ suc k) j
    ∙ ap (λ (n : ℕ). bit n j) (let e : (x + 2 ^ suc k) / 2 ≡ x / 2 + 2 ^ k = omega (arith, pow-suc 2 k) in e)
    ∙ bit_added k j (x / 2) (sym (bit_next x k) ∙ h)
    ∙ rw (eqb-suc-suc k j, bit_next x j)

-- and the sum is no wider
added_small : (k n x : ℕ) → k < n → x < 2 ^ n → bit x k ≡ 0 → x + 2 ^ k < 2 ^ n
added_small k zero x h l z = absurd (not-suc-le-zero h)
added_small zero (suc n) x h l z = omega (arith, pow-suc 2 n, bit_first x)
added_small (suc k) (suc n) x h l z =
    omega (arith, pow-suc 2 n, pow-suc 2 k, added_small k n (x / 2) (omega arith) (omega (arith, pow-suc 2 n)) (sym (bit_next x k) ∙ z))

-- numbers below 2 ^ n with the same n bits are the same
same_number : (n x y : ℕ) → x < 2 ^ n → y < 2 ^ n → ((k : ℕ) → k < n → bit x k ≡ bit y k) → x ≡ y
same_number zero x y h l e = omega arith
same_number (suc n) x y h l e =
    let half = same_number n (x / 2) (y / 2) (omega (arith, pow-suc 2 n)) (omega (arith, pow-suc 2 n))
    (λ k m. sym (bit_next x k) ∙ e (suc k) (omega arith) ∙ bit_next y k) in
    omega (arith, half, bit_first x, bit_first y, e 0 (omega arith))

-- and so bytes of two lists
pub same_byte : (a b : List ℕ) (i : ℕ) → get_or a i 0 < 256 → get_or b i 0 < 256 → ((d : ℕ) → d / 8 ≡ i → bit_of a d ≡ bit_of b d) → get_or a i 0 ≡ get_or b i 0
unfolding bit_of bit
same_byte a b i h l e = same_number 8 (get_or a i 0) (get_or b i 0) h l at
  where
    at : (k : ℕ) → k < 8 → bit (get_or a i 0) k ≡ bit (get_or b i 0) k
    at k m =
        let q : (8 * i + k) / 8 ≡ i = omega arith in
        let r : (8 * i + k) % 8 ≡ k = omega arith in
        let same : bit (get_or a ((8 * i + k) / 8) 0) ((8 * i + k) % 8) ≡ bit (get_or b ((8 * i + k) / 8) 0) ((8 * i + k) % 8) = e (8 * i + k) q in
        rw (q, r) at same

-- numbers of the same byte are equal as their places in it are
place_eq : (d e : ℕ) → e / 8 ≡ d / 8 → eqb (d % 8) (e % 8) ≡ eqb d e
place_eq d e q = go (ℕ_discrete d e)
  where
    go : Dec (d ≡ e) → eqb (d % 8) (e % 8) ≡ eqb d e
    go (yes p) = eq-eqb _ _ (ap (λ (n : ℕ). n % 8) p) ∙ sym (eq-eqb d e p)
    go (no n) = ne_eqb _ _ (λ (r : d % 8 ≡ e % 8). n (omega arith)) ∙ sym (ne_eqb d e n)

-- an unset bit set, as it is read at any number
pub bit_set : (b : List ℕ) (d e : ℕ) → d / 8 < length b → bit_of b d ≡ 0
    → bit_of (set b (d / 8) (get_or b (d / 8) 0 + 2 ^ (d % 8))) e ≡ cond (eqb d e) 1 (bit_of b e)
unfolding bit_of bit
bit_set b d e h z = go (ℕ_discrete (e / 8) (d / 8))
  where
    x : ℕ
    x = get_or b (d / 8) 0

    go : Dec (e / 8 ≡ d / 8) → bit (get_or (set b (d / 8) (x + 2 ^ (d % 8))) (e / 8) 0) (e % 8) ≡ cond (eqb d e) 1 (bit (get_or b (e / 8) 0) (e % 8))
    go (yes q) = rw (← place_eq d e q, q, get_or-set_same b (d / 8) (x + 2 ^ (d % 8)) 0 h) (bit_added (d % 8) (e % 8) x z)
    go (no n) = rw (ne_eqb d e (λ r. n (ap (λ (m : ℕ). m / 8) (sym r))), get_or-set_other b (d / 8) (e / 8) (x + 2 ^ (d % 8)) 0 n)

-- zero bytes have no bit set
pub bit_clear : (n : ℕ) (b : List ℕ) (d : ℕ) → d < 8 * n → bit_of (written (replicate n 0) b) d ≡ 0
unfolding bit_of
bit_clear n b d h =
    rw (written_at (replicate n 0) b (length-replicate n 0) (d / 8) (omega arith), get_or-replicate {A = ℕ} n (d / 8) 0 0 (omega arith), zero-div)

pub bit_le : (b : List ℕ) (d : ℕ) → bit_of b d ≤ 1
unfolding bit_of
bit_le b d = omega arith

pub byte_set : (b : List ℕ) (d : ℕ) → get_or b (d / 8) 0 < 256 → bit_of b d ≡ 0 → get_or b (d / 8) 0 + 2 ^ (d % 8) < 256
unfolding bit_of bit
byte_set b d h z = added_small (d % 8) 8 (get_or b (d / 8) 0) (omega arith) h z

-- the code's power of 2 in a byte
power : (d : ℕ) → 1 * 2 ^ (d % 8) % 256 ≡ 2 ^ (d % 8)
power d = let l : 2 ^ (d % 8) ≤ 2 ^ 7 = pow_mono {j = 7} (omega arith) in omega arith

module _ (b : List ℕ) (d : ℕ) where
  pub set_fits : Fits w8 (get_or b (d / 8) 0) → bit_of b d ≡ 0 → Fits w8 (get_or b (d / 8) 0 + 1 * 2 ^ (d % 8) % 256)
  set_fits h z = record { fits = omega (arith, power d, byte_set b d (omega arith) z) }

-- s is how many of j bits are set
abbrev pub Set : List ℕ → ℕ → ℕ → ℕ → Type 0
Set bits from j s = Summed (λ i. bit_of bits (from + i)) 2 j s

module _ (bits : List ℕ) (from : ℕ) {j s : ℕ} (p : Set bits from j s) where
  pub set_more : (x : ℕ) → x ≡ bit_of bits (from + j) → Set bits from (j + 1) (s + x)
  set_more x e = summed_more p x e (omega (arith, bit_le bits (from + j)))

  pub set_fits_more : (x : ℕ) {n : ℕ} → x ≡ bit_of bits (from + j) → j < n → n ≤ 65535 → Fits w32 (s + x)
  set_fits_more x e h l = record { fits = omega (arith, p.small, bit_le bits (from + j)) }

-- no spare bit is set just if none of them counts
module _ (count : ℕ) (bits : List ℕ) where
  bytes_of : div_ceil count 8 ≡ bit_bytes count
  bytes_of = grind (arith, nat_tests)

  pub spare_by : (x y : ℕ) → y ≡ div_ceil count 8 → x ≡ bits_set bits count (8 * y - count) → eqb x 0 ≡ spare_clear count bits
  spare_by x y h e =
      ap (λ (n : ℕ). eqb n 0) (e ∙ ap (λ (n : ℕ). bits_set bits count (8 * n - count)) (h ∙ bytes_of))
      ∙ sym (sum_none (8 * bit_bytes count - count) (λ i. bit_of bits (count + i)))
