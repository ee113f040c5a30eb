-- Laws on numbers in bytes, low byte first. Assumes nothing.
use mathlib.Core.Path.{◌≡◌, refl, ap, ◌∙◌}
use mathlib.Core.List.{List, [], ◌∷◌}
use Prim.Native.Nat.{ℕ, zero, suc, ◌+◌, ◌*◌, ◌-◌, ◌^◌, ◌<◌, ◌≤◌}
use native.Mathlib.Nat.{add-zero, zero-add, suc-add, one-mul, add_assoc, mul_assoc, pow-zero, pow-succ'}
use native.Mathlib.Omega.{arith}
use lib.ListN.{length, get_or, take, drop, length-drop}
use lib.Seq.{get_or-drop, take_all}
use Rattle.std.specs.Int.{w16, w32, from_le_bytes}
use Rattle.byte_numbers.specs.Bytes.{number}

-- a number of m + n bytes is one of m bytes and one of n bytes after it
pub number_split : (m n : ℕ) (s : List ℕ) (at : ℕ) → number (m + n) s at ≡ number m s at + 256 ^ m * number n s (at + m)
unfolding number
number_split zero n s at = simp (zero-add, add-zero, pow-zero, one-mul)
number_split (suc m) n s at =
    let i : number n s (at + 1 + m) ≡ number n s (at + suc m) = ap (number n s) (omega arith) in
    let p : 256 * 256 ^ m * number n s (at + suc m) ≡ 256 * (256 ^ m * number n s (at + suc m)) = mul_assoc 256 (256 ^ m) _ in
    rw (suc-add m n, pow-succ' 256 m) (omega (arith, number_split m n s (at + 1), ap (λ (x : ℕ). 256 ^ m * x) i))

-- std's number of two bytes, and of four
pub number_two : (s : List ℕ) (at : ℕ) → from_le_bytes w16 (get_or s at 0 ∷ get_or s (at + 1) 0 ∷ []) ≡ number 2 s at
unfolding number
number_two s at = omega arith

pub number_four : (s : List ℕ) (at : ℕ) → from_le_bytes w32 (get_or s at 0 ∷ get_or s (at + 1) 0 ∷ get_or s (at + 2) 0 ∷ get_or s (at + 3) 0 ∷ []) ≡ number 4 s at
unfolding number
number_four s at = simp add_assoc (omega arith)

-- two bytes hold at most 65,535
pub number_small : (s : List ℕ) → ((k : ℕ) → get_or s k 0 < 256) → (at : ℕ) → number 2 s at < 65536
unfolding number
number_small s bytes at = omega (arith, bytes at, bytes (at + 1))

-- and four at most 4,294,967,295
pub number_four_small : (s : List ℕ) → ((k : ℕ) → get_or s k 0 < 256) → (at : ℕ) → number 4 s at < 4294967296
unfolding number
number_four_small s bytes at = omega (arith, bytes at, bytes (at + 1), bytes (at + 1 + 1), bytes (at + 1 + 1 + 1))

-- a number in the bytes from k on
pub number_drop : (n k : ℕ) (s : List ℕ) (at : ℕ) → number n (drop k s) at ≡ number n s (k + at)
unfolding number
number_drop zero k s at = refl
number_drop (suc n) k s at =
    let i : number n s (k + (at + 1)) ≡ number n s (k + at + 1) = ap (number n s) (omega arith) in
    omega (arith, get_or-drop k s at 0, number_drop n k s (at + 1))

-- the code's part `s[k..]`
pub rest : (s : List ℕ) (k : ℕ) → take (length s - k) (drop k s) ≡ drop k s
rest s k = take_all (length s - k) (drop k s) (omega (arith, length-drop k s))

-- a number in the part that begins where an offset points
module _ (s : List ℕ) (k o : ℕ) (e : k ≡ o) where
  pub part_number_lem : (n at r : ℕ) → r ≡ number n (take (length s - k) (drop k s)) at → r ≡ number n s (o + at)
  part_number_lem n at r h = h ∙ ap (λ (l : List ℕ). number n l at) (rest s k) ∙ number_drop n k s at ∙ ap (λ (j : ℕ). number n s (j + at)) e

  pub part_room : (m : ℕ) → o + m ≤ length s → m ≤ length (take (length s - k) (drop k s))
  part_room m h = rw (rest s k, length-drop k s) (omega arith)
