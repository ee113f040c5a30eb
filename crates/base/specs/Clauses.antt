-- What loops that store numbers leave, and numbers in a wider type: for inner functions of every layer. Assumes nothing.
use Rattle.std.specs.Prelude.{◌≡◌, List, ℕ, ◌+◌, ◌<◌, ◌≤◌, length, get_or}

-- `new` holds f 0, .., f (count - 1) from a place on, and elsewhere what `old` holds
pub record Filled (f : ℕ → ℕ) (from : ℕ) (old new : List ℕ) (count : ℕ) : Type 0 where
  pub len : length new ≡ length old
  pub inside : (k : ℕ) → k < count → get_or new (from + k) 0 ≡ f k
  pub before : (k : ℕ) → k < from → get_or new k 0 ≡ get_or old k 0
  pub beyond : (k : ℕ) → from + count ≤ k → get_or new k 0 ≡ get_or old k 0

-- r is x, which is below a bound
pub record Widened (bound x r : ℕ) : Type 0 where
  pub is : r ≡ x
  pub small : r < bound
