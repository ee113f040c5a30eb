-- Any two numbers have a greatest common divisor. Assumes nothing.
use mathlib.Core.Path.{◌≡◌}
use Prim.Native.Nat.{ℕ, zero, suc, ◌%◌, ◌<◌}
use native.Mathlib.Decide.{ℕ_discrete}
use native.Mathlib.Nat.{mod-lt}
use native.Mathlib.Omega.{arith}
use Rattle.std.specs.Int.{IsGcd}
use Rattle.std.proofs.lemmas.Nat.Gcd.{IsGcd-from_zero, IsGcd-from_mod}

pub greatest_exists : (a b : ℕ) → (g : ℕ) × IsGcd a b g
greatest_exists a b = go (suc b) a b (omega arith)
  where
    go : (n a b : ℕ) → b < n → (g : ℕ) × IsGcd a b g
    go zero a b h = absurd (omega arith)
    go (suc n) a b h = by (ℕ_discrete b 0) (λ (q : a % b < b). go n b (a % b) (omega arith))
      where
        by : Dec (b ≡ 0) → (a % b < b → (g : ℕ) × IsGcd b (a % b) g) → (g : ℕ) × IsGcd a b g
        by (yes e) next = (a, IsGcd-from_zero a b e)
        by (no e) next = let x : (g : ℕ) × IsGcd b (a % b) g = next (mod-lt a (omega arith)) in (x.0, IsGcd-from_mod a b x.0 x.1)
