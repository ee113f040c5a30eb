-- The least common multiple of two numbers (specification, "Pooling two tables"). Assumes nothing.
use Rattle.std.specs.Prelude.{Bool, ◌&&◌, ℕ, ◌*◌, ◌%◌, ◌≤◌, eqb}
use Rattle.std.specs.Int.{◌∣◌}
use Rattle.base.specs.Search.{first_from}

-- a and b both divide n
abbrev pub common : ℕ → ℕ → ℕ → Bool
common a b n = eqb (n % a) 0 && eqb (n % b) 0

-- the first number from 1 on that both divide; they divide a·b, so no search goes beyond it
unfoldable pub least_multiple : ℕ → ℕ → ℕ
least_multiple a b = first_from (common a b) 1 (a * b)

-- What m is without a search: at least 1, divided by both, and not above any number from 1 on that both divide. (a ∣ m says that a divides m.)
pub record LeastMultiple (a b m : ℕ) : Type 0 where
  pub some : 1 ≤ m
  pub first : a ∣ m
  pub second : b ∣ m
  pub least : (n : ℕ) → 1 ≤ n → a ∣ n → b ∣ n → m ≤ n
