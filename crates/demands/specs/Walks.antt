-- The walk through all controlled roundings of a small table (specification, "The walk"): the list that the two calls make, over the definitions that they are
-- equated with. Assumes nothing.
use Rattle.std.specs.Prelude.{◌≡◌, true, ℕ, ◌*◌, ◌^◌, ◌<◌, ◌≤◌, length, get_or, take, Ok}
use mathlib.Core.List.{List, [], ◌∷◌, Memᴰ as Member}
use Rattle.base.specs.Buffers.{written}
use Rattle.refusals.specs.Due.{answer_of, after}
use Rattle.is_rounding.specs.Rounding.{two_ways, is_rounding}
use Rattle.first_rounding.specs.Order.{Before}
use Rattle.first_rounding.specs.First.{first_rounding}
use Rattle.walk.specs.declared.Step.TheVariants.{Next, Last}
use Rattle.walk.specs.Call.{first_refusal, next_answer, next_left}

-- the first call writes n, whatever buffer with room for an array it is lent
abbrev pub Begins : ℕ → ℕ → ℕ → List ℕ → List ℕ → Type 0
Begins r c d g n =
    (buffer : List ℕ) → r * c ≤ length buffer
    → let o = first_refusal r c d g (length buffer) in
    (answer_of o ≡ Ok tt) × (take (r * c) (after o (written (first_rounding r c d g) buffer) buffer) ≡ n)

-- the second call, handed n, writes k; and it says that n was the last, and writes nothing
abbrev pub GoesOn : ℕ → ℕ → ℕ → List ℕ → List ℕ → List ℕ → Type 0
GoesOn r c d g n k = (buffer : List ℕ) → r * c ≤ length buffer → (next_answer r c d g n (length buffer) ≡ Ok Next) × (take (r * c) (next_left r c d g n buffer) ≡ k)

abbrev pub Ends : ℕ → ℕ → ℕ → List ℕ → List ℕ → Type 0
Ends r c d g n = (buffer : List ℕ) → r * c ≤ length buffer → (next_answer r c d g n (length buffer) ≡ Ok Last) × (next_left r c d g n buffer ≡ buffer)

-- the arrays that the second call writes, handed n and then each time the array that it wrote, until it says that this was the last
abbrev pub Onward : ℕ → ℕ → ℕ → List ℕ → List ℕ → List (List ℕ) → Type 0
Onward r c d g n [] = Ends r c d g n
Onward r c d g n (k ∷ l) = GoesOn r c d g n k × Onward r c d g k l

-- a walk: the array that the first call writes, and then those of the second
abbrev pub Walk : ℕ → ℕ → ℕ → List ℕ → List (List ℕ) → Type 0
Walk r c d g [] = ⊥
Walk r c d g (n ∷ l) = Begins r c d g n × Onward r c d g n l

-- so of every accepted table of that size
pub record Walked (r c d : ℕ) (g : List ℕ) : Type 0 where
  -- the walk ends: there is its list, and no other, of at most 2 to the number of cells arrays
  pub list : List (List ℕ)
  pub walk : Walk r c d g list
  pub only : (l : List (List ℕ)) → Walk r c d g l → l ≡ list
  pub few : length list ≤ 2 ^ (r * c)
  -- it holds each controlled rounding, and none besides
  pub each : (n : List ℕ) → is_rounding (two_ways r c) d g n ≡ true → Member n list
  pub none_besides : (n : List ℕ) → Member n list → is_rounding (two_ways r c) d g n ≡ true
  -- in strictly rising order, and so no array twice
  pub rising : (i j : ℕ) → i < j → j < length list → Before r c (get_or list i []) (get_or list j [])
  pub once : (i j : ℕ) → i < length list → j < length list → get_or list i [] ≡ get_or list j [] → i ≡ j
