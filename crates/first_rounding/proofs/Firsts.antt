-- The search for the first list of counts finds it, and only it. Assumes nothing.
use Rattle.std.specs.Prelude.{Option, Some, None}
use mathlib.Core.Path.{◌≡◌, refl, sym, ap, ◌∙◌}
use mathlib.Core.Logic.{◌⊎◌, inl, inr, ⊎_elim}
use mathlib.Core.Bool.{Bool, true, false, false≢true}
use mathlib.Core.List.{List, [], ◌∷◌}
use Prim.Native.Nat.{ℕ, suc, ◌≤◌, ◌<◌}
use native.Mathlib.Nat.{eq-or-lt_of_le, lt_of_not-le}
use native.Mathlib.Decide.{dec_le}
use native.Mathlib.Omega.{arith}
use lib.ListN.{length}
use Rattle.first_rounding.specs.Order.{Smaller, Choice, either, empty_if, first_of}

-- a list made of the counts to choose from
abbrev pub Within : List (Choice ℕ) → List ℕ → Type 0
Within [] [] = Unit {0}
Within [] (x ∷ n) = ⊥
Within (c ∷ cs) [] = ⊥
Within (c ∷ cs) (x ∷ n) = ((x ≡ c.low) ⊎ (x ≡ c.high)) × Within cs n

pub within_length : (cs : List (Choice ℕ)) (n : List ℕ) → Within cs n → length n ≡ length cs
within_length [] [] h = refl
within_length [] (x ∷ n) h = absurd h
within_length (c ∷ cs) [] h = absurd h
within_length (c ∷ cs) (x ∷ n) h = ap suc (within_length cs n h.1)

abbrev pub Ordered : List (Choice ℕ) → Type 0
Ordered [] = Unit {0}
Ordered (c ∷ cs) = (c.low ≤ c.high) × Ordered cs

pub record FirstWithin (test : List ℕ → Bool) (cs : List (Choice ℕ)) (n : List ℕ) : Type 0 where
  pub passes : test n ≡ true
  pub within : Within cs n
  pub first : (k : List ℕ) → Within cs k → test k ≡ true → Smaller ◌<◌ k n → ⊥

abbrev pub Answer : (List ℕ → Bool) → List (Choice ℕ) → Option (List ℕ) → Type 0
Answer test cs (Some n) = FirstWithin test cs n
Answer test cs None = (k : List ℕ) → Within cs k → test k ≡ true → ⊥

module _ (test : List ℕ → Bool) (c : Choice ℕ) (cs : List (Choice ℕ)) (o : c.low ≤ c.high) where
  after_low : (r : List ℕ) → FirstWithin (λ r. test (c.low ∷ r)) cs r
      → (k : List ℕ) → Within (c ∷ cs) k → test k ≡ true → Smaller ◌<◌ k (c.low ∷ r) → ⊥
  after_low r f [] w t b = w
  after_low r f (x ∷ k) w t (inl l) = ⊎_elim (λ e. omega arith) (λ e. omega arith) w.0
  after_low r f (x ∷ k) w t (inr e) = f.first k w.1 (rw e.0 at t) e.1

  after_high : (r : List ℕ) → ((k : List ℕ) → Within cs k → test (c.low ∷ k) ≡ true → ⊥) → FirstWithin (λ r. test (c.high ∷ r)) cs r
      → (k : List ℕ) → Within (c ∷ cs) k → test k ≡ true → Smaller ◌<◌ k (c.high ∷ r) → ⊥
  after_high r f g [] w t b = w
  after_high r f g (x ∷ k) w t (inl l) = ⊎_elim (λ e. f k w.1 (rw e at t)) (λ e. omega arith) w.0
  after_high r f g (x ∷ k) w t (inr e) = g.first k w.1 (rw e.0 at t) e.1

  neither : ((k : List ℕ) → Within cs k → test (c.low ∷ k) ≡ true → ⊥) → ((k : List ℕ) → Within cs k → test (c.high ∷ k) ≡ true → ⊥)
      → (k : List ℕ) → Within (c ∷ cs) k → test k ≡ true → ⊥
  neither f g [] w t = w
  neither f g (x ∷ k) w t = ⊎_elim (λ e. f k w.1 (rw e at t)) (λ e. g k w.1 (rw e at t)) w.0

  join : (u v : Option (List ℕ)) → Answer (λ r. test (c.low ∷ r)) cs u → Answer (λ r. test (c.high ∷ r)) cs v
      → Answer test (c ∷ cs) (either c.low c.high u v)
  join (Some r) v f g = record { passes = f.passes; within = (inl refl, f.within); first = after_low r f }
  join None (Some r) f g = record { passes = g.passes; within = (inr refl, g.within); first = after_high r f g }
  join None None f g = neither f g

last : (test : List ℕ → Bool) (b : Bool) → test [] ≡ b → Answer test [] (empty_if b)
last test true e = record { passes = e; within = tt; first = none_before }
  where
    none_before : (k : List ℕ) → Within [] k → test k ≡ true → Smaller ◌<◌ k [] → ⊥
    none_before [] w t b = b
    none_before (x ∷ k) w t b = w
last test false e = none_passes
  where
    none_passes : (k : List ℕ) → Within [] k → test k ≡ true → ⊥
    none_passes [] w t = false≢true (sym e ∙ t)
    none_passes (x ∷ k) w t = w

pub answer : (test : List ℕ → Bool) (cs : List (Choice ℕ)) → Ordered cs → Answer test cs (first_of test cs)
unfolding first_of
answer test [] o = last test (test []) refl
answer test (c ∷ cs) o =
    join test c cs o.0 (first_of (λ r. test (c.low ∷ r)) cs) (first_of (λ r. test (c.high ∷ r)) cs)
    (answer (λ r. test (c.low ∷ r)) cs o.1) (answer (λ r. test (c.high ∷ r)) cs o.1)

-- of two lists within the same choices one comes first, if they differ
pub one_before : (cs : List (Choice ℕ)) (k n : List ℕ) → Within cs k → Within cs n → (k ≡ n) ⊎ (Smaller ◌<◌ k n ⊎ Smaller ◌<◌ n k)
one_before [] [] [] v w = inl refl
one_before [] [] (y ∷ n) v w = absurd w
one_before [] (x ∷ k) n v w = absurd v
one_before (c ∷ cs) [] n v w = absurd v
one_before (c ∷ cs) (x ∷ k) [] v w = absurd w
one_before (c ∷ cs) (x ∷ k) (y ∷ n) v w = heads (three x y) (one_before cs k n v.1 w.1)
  where
    three : (x y : ℕ) → (x ≡ y) ⊎ ((x < y) ⊎ (y < x))
    three x y = elim (dec_le x y) [ yes l ↦ ⊎_elim (λ e. inl e) (λ h. inr (inl h)) (eq-or-lt_of_le l) | no h ↦ inr (inr (lt_of_not-le h)) ]

    heads : (x ≡ y) ⊎ ((x < y) ⊎ (y < x)) → (k ≡ n) ⊎ (Smaller ◌<◌ k n ⊎ Smaller ◌<◌ n k) → (x ∷ k ≡ y ∷ n) ⊎ (Smaller ◌<◌ (x ∷ k) (y ∷ n) ⊎ Smaller ◌<◌ (y ∷ n) (x ∷ k))
    heads (inr (inl h)) t = inr (inl (inl h))
    heads (inr (inr h)) t = inr (inr (inl h))
    heads (inl e) (inl f) = inl (cc)
    heads (inl e) (inr (inl h)) = inr (inl (inr (e, h)))
    heads (inl e) (inr (inr h)) = inr (inr (inr (sym e, h)))

unique : (test : List ℕ → Bool) (cs : List (Choice ℕ)) (k n : List ℕ) → FirstWithin test cs k → FirstWithin test cs n → k ≡ n
unique test cs k n f g =
    ⊎_elim
    (λ e. e)
    (⊎_elim (λ h. absurd (g.first k f.within f.passes h)) (λ h. absurd (f.first n g.within g.passes h)))
    (one_before cs k n f.within g.within)

-- the search finds the list that is first
pub found_first : (test : List ℕ → Bool) (cs : List (Choice ℕ)) → Ordered cs → (n : List ℕ) → FirstWithin test cs n → first_of test cs ≡ Some n
found_first test cs o n = back (first_of test cs) (answer test cs o)
  where
    back : (u : Option (List ℕ)) → Answer test cs u → FirstWithin test cs n → u ≡ Some n
    back None a f = absurd (a n f.within f.passes)
    back (Some k) a f = ap Some (unique test cs k n a f)
