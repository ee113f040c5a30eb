-- No entry of an accepted table is above 144 times the largest cell. Assumes nothing.
use mathlib.Core.List.{List}
use Prim.Native.Nat.{ℕ, zero, suc, ◌*◌, ◌<◌, ◌≤◌}
use native.Mathlib.Decide.{dec_lt}
use native.Mathlib.Nat.{mul-le-mul_right, add-mul, one-mul, suc-mul, le_trans}
use native.Mathlib.Omega.{arith}
use lib.ListN.{length, get_or, get_or-eq_default}
use Rattle.base.specs.Lists.{tabulate, sum_to}
use Rattle.table.specs.Table.{total}
use Rattle.table.specs.Clauses.{IsTable}
use Rattle.table.proofs.Totals.{total_sum}

sum_at_most : (n b : ℕ) (f : ℕ → ℕ) → ((k : ℕ) → f k ≤ b) → sum_to n f ≤ n * b
unfolding sum_to
sum_at_most zero b f h = omega arith
sum_at_most (suc n) b f h = omega (arith, sum_at_most n b f h, h n, add-mul n 1 b, one-mul b, suc-mul n b)

module _ (g : List ℕ) (b : ℕ) (h : (k : ℕ) → get_or g k 0 ≤ b) where
  pub total_at_most : (n : ℕ) (f : ℕ → ℕ) → total g (tabulate n f) ≤ n * b
  total_at_most n f = rw (total_sum g n f) (sum_at_most n b (λ k. get_or g (f k) 0) (λ k. h (f k)))

  pub within_144 : (n : ℕ) (f : ℕ → ℕ) → n ≤ 144 → total g (tabulate n f) ≤ 144 * b
  within_144 n f l = le_trans (total_at_most n f) (mul-le-mul_right b l)

module _ {r c d : ℕ} {g : List ℕ} (t : IsTable r c d g) where
  pub cell_at_most : (k : ℕ) → get_or g k 0 ≤ 1000 * d
  cell_at_most k = go (dec_lt k (length g))
    where
      go : Dec (k < length g) → get_or g k 0 ≤ 1000 * d
      go (yes h) = t.within k h
      go (no h) = omega (arith, get_or-eq_default g 0 {n = k} (omega arith))
