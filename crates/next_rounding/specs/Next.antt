-- The controlled rounding after another (specification, "The walk"). Assumes nothing.
use Rattle.std.specs.Prelude.{◌≡◌, Bool, true, false, ◌&&◌, ◌||◌, List, [], ◌∷◌, map, ℕ, eqb, ltb, Option, Some, None}
use Rattle.base.specs.Buffers.{written}
use Rattle.is_rounding.specs.Rounding.{two_ways, is_rounding}
use Rattle.first_rounding.specs.Order.{in_order, array_of, Before, first_of}
use Rattle.first_rounding.specs.First.{choice}

-- k is the next after n: a controlled rounding that comes after n, and none comes between
pub record IsNext (r c w : ℕ) (g n k : List ℕ) : Type 0 where
  pub rounding : is_rounding (two_ways r c) w g k ≡ true
  pub after : Before r c n k
  pub none_between : (m : List ℕ) → is_rounding (two_ways r c) w g m ≡ true → Before r c n m → Before r c m k → ⊥

-- n is the last: no controlled rounding comes after it
pub record IsLast (r c w : ℕ) (g n : List ℕ) : Type 0 where
  pub none_after : (m : List ℕ) → is_rounding (two_ways r c) w g m ≡ true → Before r c n m → ⊥

-- what follows n: the next, or nothing where n is the last
abbrev pub Follows : ℕ → ℕ → ℕ → List ℕ → List ℕ → Option (List ℕ) → Type 0
Follows r c w g n (Some k) = IsNext r c w g n k
Follows r c w g n None = IsLast r c w g n

-- the same, searched for: of all arrays that come after n, the first that is a controlled rounding (`next_rounding::claims`: it follows n)
abbrev pub is_smaller : List ℕ → List ℕ → Bool
is_smaller [] n = false
is_smaller (x ∷ k) [] = false
is_smaller (x ∷ k) (y ∷ n) = ltb x y || (eqb x y && is_smaller k n)

abbrev pub array_in : ℕ → ℕ → Option (List ℕ) → Option (List ℕ)
array_in r c (Some l) = Some (array_of 0 r c l)
array_in r c None = None

unfoldable pub next_rounding : ℕ → ℕ → ℕ → List ℕ → List ℕ → Option (List ℕ)
next_rounding r c w g n =
    array_in r c (first_of (λ l. is_smaller (in_order 0 r c n) l && is_rounding (two_ways r c) w g (array_of 0 r c l)) (map (choice w) (in_order 0 r c g)))

-- a buffer with what follows written to it, if anything does
abbrev pub written_if : Option (List ℕ) → List ℕ → List ℕ
written_if (Some k) buffer = written k buffer
written_if None buffer = buffer
