-- What a caller may rely on in the answer to a text: three numbers at least, and those that the array holds. Assumes nothing.
use Rattle.std.specs.Prelude.{Some, None}
use mathlib.Core.Path.{◌≡◌, refl, ap, ◌∙◌}
use mathlib.Core.Bool.{Bool, true, false, cond}
use mathlib.Core.List.{List, [], ◌∷◌}
use Prim.Native.Nat.{ℕ, suc, ◌+◌, ◌-◌, ◌*◌, ◌<◌, ◌≤◌}
use native.Mathlib.Omega.{arith}
use borrow.Author.Tests.{leb-true}
use lib.Dec.{leb}
use lib.ListN.{length, get_or, take, drop, length-drop, get_or-append}
use lib.Seq.{take_at, drop-append-le}
use Rattle.base.specs.Lists.{all}
use Rattle.parsing.specs.Text.{is_digit, is_text, is_number, numbers_from, parse}
use Rattle.parsing.specs.Clauses.{padded}

-- a number takes a digit, and all but the last a byte after it
numbers_few : (l : List ℕ) → (2 * length (numbers_from None l) ≤ length l + 1) × ((v : ℕ) → 2 * length (numbers_from (Some v) l) ≤ length l + 2)
unfolding numbers_from
numbers_few [] = (omega arith, λ v. omega arith)
numbers_few (x ∷ l) = (first (is_digit x) (numbers_few l), λ v. later v (is_digit x) (numbers_few l))
  where
    Few : Type 0
    Few = (2 * length (numbers_from None l) ≤ length l + 1) × ((v : ℕ) → 2 * length (numbers_from (Some v) l) ≤ length l + 2)

    first : (b : Bool) → Few → 2 * length (cond b (numbers_from (Some (x - 48)) l) (numbers_from None l)) ≤ suc (length l) + 1
    first true h = omega (arith, h.1 (x - 48))
    first false h = omega (arith, h.0)

    later : (v : ℕ) (b : Bool) → Few → 2 * length {A = ℕ} (elim b [ true ↦ numbers_from (Some (v * 10 + (x - 48))) l | false ↦ v ∷ numbers_from None l ]) ≤ suc (length l) + 2
    later v true h = omega (arith, h.1 (v * 10 + (x - 48)))
    later v false h = omega (arith, h.0)

module _ (s n : List ℕ) where
  tests : (a b c d : Bool) → leb (length s) 4096 ≡ a → leb 3 (length (numbers_from None s)) ≡ c
      → cond a (cond b (cond c (cond d (Some (numbers_from None s)) None) None) None) None ≡ Some n → (3 ≤ length n) × (length n ≤ 2048)
  tests true true true true e f h =
      let q : numbers_from None s ≡ n = cc in
      (omega (arith, leb-true 3 (length (numbers_from None s)) f, ap length q), omega (arith, (numbers_few s).0, leb-true (length s) 4096 e, ap length q))
  tests true true true false e f h = let o : ◌≡◌ {A = ℕ} 0 1 = cc in absurd (omega arith)
  tests true true false d e f h = let o : ◌≡◌ {A = ℕ} 0 1 = cc in absurd (omega arith)
  tests true false c d e f h = let o : ◌≡◌ {A = ℕ} 0 1 = cc in absurd (omega arith)
  tests false b c d e f h = let o : ◌≡◌ {A = ℕ} 0 1 = cc in absurd (omega arith)

  pub accepted_count : parse s ≡ Some n → (3 ≤ length n) × (length n ≤ 2048)
  unfolding parse
  accepted_count h = tests (leb (length s) 4096) (all is_text s) (leb 3 (length (numbers_from None s))) (all is_number (numbers_from None s)) refl refl h

-- the numbers in the array
module _ (n : List ℕ) where
  pub padded_at : (i : ℕ) → i < length n → get_or (padded n) i 0 ≡ get_or n i 0
  padded_at i h = get_or-append n _ 0 i h

  pub padded_part : (i : ℕ) → i ≤ length n → take (length n - i) (drop i (padded n)) ≡ drop i n
  padded_part i h = ap (take (length n - i)) (drop-append-le i n _ h) ∙ take_at (drop i n) _ (length n - i) (length-drop i n)
