-- Sets of indices below 13 as numbers: i is a member where binary digit i is 1. Assumes nothing.
use Rattle.std.specs.Prelude.{◌≡◌, Bool, true, false, List, ℕ, ◌+◌, ◌/◌, ◌%◌, ◌^◌, ◌<◌, ◌≤◌, min, max, eqb, get_or, Option, MatchOption}

-- a test as a number
abbrev pub num : Bool → ℕ
num true = 1
num false = 0

-- 1 where x is y, else 0
unfoldable pub ind : ℕ → ℕ → ℕ
ind x y = num (eqb x y)

-- 1 where i is a member of x, else 0
unfoldable pub on : ℕ → ℕ → ℕ
on x i = x / 2 ^ i % 2

-- 1 where j is a member of the set with index i, else 0
abbrev pub has : List ℕ → ℕ → ℕ → ℕ
has sets i j = on (get_or sets i 0) j

-- r has the one member i
pub record Single (i r : ℕ) : Type 0 where
  pub value : r ≡ 2 ^ i
  pub small : r < 8192
  pub is : (j : ℕ) → on r j ≡ ind j i

-- a set that is not empty
pub record NotEmpty (x : ℕ) : Type 0 where
  pub some : 0 < x
  pub small : x < 8192

-- i is a member of x, and i is not
pub record MemberOf (x i : ℕ) : Type 0 where
  pub below : i < 13
  pub is : on x i ≡ 1

pub record NewTo (x i : ℕ) : Type 0 where
  pub below : i < 13
  pub is : on x i ≡ 0

-- r is the first member of x
pub record Some (x r : ℕ) : Type 0 where
  pub below : r < 13
  pub is : on x r ≡ 1
  pub first : (j : ℕ) → j < r → on x j ≡ 0

-- r is x without its member i
pub record Without (x i r : ℕ) : Type 0 where
  pub less : r < x
  pub is : (j : ℕ) → on r j + ind j i ≡ on x j

-- r is x without its first member
pub record Rest (x r : ℕ) : Type 0 where
  pub less : r < x
  pub is : (i : ℕ) → Some x i → Without x i r

-- a step through the members of x: none where x is empty, and else the first, with y left
abbrev pub Next : ℕ → Option ℕ → ℕ → Type 0
Next x r y = MatchOption r (x ≡ 0) (λ i. Some x i × Rest x y)

-- r is x with the new member i
pub record With (x i r : ℕ) : Type 0 where
  pub is : (j : ℕ) → on r j ≡ on x j + ind j i

-- r has the members of both
pub record Meet (a b r : ℕ) : Type 0 where
  pub small : r ≤ b
  pub is : (j : ℕ) → on r j ≡ min (on a j) (on b j)

-- r has the members of one or both
pub record Join (a b r : ℕ) : Type 0 where
  pub is : (j : ℕ) → on r j ≡ max (on a j) (on b j)

-- b is a part of a
pub record PartOf (a b : ℕ) : Type 0 where
  pub whole_small : a < 8192
  pub part_small : b < 8192
  pub is : (j : ℕ) → on b j ≤ on a j

-- r is a without the members of its part b
pub record Minus (a b r : ℕ) : Type 0 where
  pub small : r < 8192
  pub is : (j : ℕ) → on r j + on b j ≡ on a j

-- p is a member of x, and q of the set with index p
pub record Picked (sets : List ℕ) (x q p : ℕ) : Type 0 where
  pub below : p < 13
  pub member : on x p ≡ 1
  pub linked : has sets p q ≡ 1

-- there is such a p
pub record Via (sets : List ℕ) (x q : ℕ) : Type 0 where
  pub p : ℕ
  pub picked : Picked sets x q p

-- q is below 13, and there is such a p
pub record Pickable (sets : List ℕ) (x q : ℕ) : Type 0 where
  pub small : x < 8192
  pub below : q < 13
  pub via : Via sets x q

-- r is the union of the sets whose index is in x
pub record UnionOf (sets : List ℕ) (x r : ℕ) : Type 0 where
  pub all : (p q : ℕ) → on x p + has sets p q ≤ 1 + on r q
  pub from : (q : ℕ) → on r q ≡ 1 → Via sets x q

-- r has those of the 13 numbers from place k on that are not 0
pub record Nonzero (numbers : List ℕ) (k r : ℕ) : Type 0 where
  pub is : (q : ℕ) → q < 13 → on r q ≡ min (get_or numbers (k + q) 0) 1
