-- Laws on tests of every element of lists that are made of a function. Assumes nothing.
use mathlib.Core.Path.{◌≡◌, refl, sym, ap, ◌∙◌}
use mathlib.Core.Bool.{Bool, true, false, not, ◌&&◌}
use mathlib.Core.List.{List, [], ◌∷◌, ◌++◌}
use Prim.Native.Nat.{ℕ, zero, suc, ◌+◌, ◌<◌, ◌≤◌, suc-le-suc}
use native.Mathlib.Nat.{zero-add, suc-add}
use native.Mathlib.Omega.{arith}
use lib.ListN.{length, get_or}
use lib.Dec.{eqb}
use native.Mathlib.Decide.{ℕ_discrete}
use borrow.Author.Count.{below_more}
use borrow.Author.Tests.{not-false, eqb-true, eq-eqb, ne_eqb}
use Rattle.base.specs.Lists.{tabulate, sum_to, all, every}
use Rattle.base.proofs.Sums.{sum_ext, sum_zero, sum_term}
use Rattle.base.proofs.Lists.{length_tabulate, get_d_tabulate, tabulate_ext, all_append, all_intro, all_elim, all_fails}

module _ {ℓ} {A : Type ℓ} where
  -- the same tests in the same order
  pub all_ext : {B : Type ℓ} (p : A → Bool) (q : B → Bool) (n : ℕ) (f : ℕ → A) (g : ℕ → B) → ((i : ℕ) → i < n → p (f i) ≡ q (g i))
      → all p (tabulate n f) ≡ all q (tabulate n g)
  unfolding all tabulate
  all_ext p q zero f g h = refl
  all_ext p q (suc n) f g h =
      let e : p (f 0) ≡ q (g 0) = h 0 (omega arith) in
      let es : all p (tabulate n (λ i. f (suc i))) ≡ all q (tabulate n (λ i. g (suc i))) = all_ext p q n _ _ (λ i l. h (suc i) (suc-le-suc l)) in
      cc

-- the numbers below a + b are those below a, and then b more
tabulate_add {ℓ} : {A : Type ℓ} (a b : ℕ) (f : ℕ → A) → tabulate (a + b) f ≡ tabulate a f ++ tabulate b (λ i. f (a + i))
unfolding tabulate
tabulate_add zero b f = rw (zero-add b) (tabulate_ext b f (λ i. f (0 + i)) (λ i h. ap f (sym (zero-add i))))
tabulate_add (suc a) b f =
    rw (suc-add a b) (ap (λ l. f 0 ∷ l) (tabulate_add a b (λ i. f (suc i)) ∙ ap (λ l. tabulate a (λ i. f (suc i)) ++ l)
    (tabulate_ext b (λ i. f (suc (a + i))) (λ i. f (suc a + i)) (λ i h. ap f (sym (suc-add a i))))))

pub every_add : (a b : ℕ) (test : ℕ → Bool) → every (a + b) test ≡ (every a test && every b (λ i. test (a + i)))
every_add a b test =
    ap (all test) (tabulate_add a b (λ k. k))
    ∙ all_append test (tabulate a (λ k. k)) _
    ∙ ap (λ (x : Bool). every a test && x) (all_ext test (λ i. test (a + i)) b (λ i. a + i) (λ i. i) (λ i h. refl))

pub every_ext : (n : ℕ) (f g : ℕ → Bool) → ((i : ℕ) → i < n → f i ≡ g i) → every n f ≡ every n g
every_ext n f g h = all_ext f g n (λ i. i) (λ i. i) h

-- a test of every element of a list, by the places of the list
pub every_place {ℓ} : {A : Type ℓ} (test : A → Bool) (l : List A) (d : A) → every (length l) (λ i. test (get_or l i d)) ≡ all test l
unfolding all tabulate
every_place test [] d = refl
every_place test (x ∷ l) d = ap (λ (b : Bool). test x && b) (all_ext (λ i. test (get_or (x ∷ l) i d)) (λ i. test (get_or l i d)) (length l) suc (λ i. i) (λ i h. refl) ∙ every_place test l d)

-- the numbers before i pass a test
pub record Passed (test : ℕ → Bool) (i : ℕ) : Type 0 where
  pub passed : (k : ℕ) → k < i → test k ≡ true

pub passed_none : (test : ℕ → Bool) → Passed test 0
passed_none test = record { passed = λ k h. absurd (omega arith) }

pub every_intro : (test : ℕ → Bool) (n : ℕ) → ((i : ℕ) → i < n → test i ≡ true) → every n test ≡ true
every_intro test n h =
    all_intro test (tabulate n (λ k. k)) 0
    (λ k l. let m : k < n = omega (arith, length_tabulate n (λ k. k)) in ap test (get_d_tabulate n (λ k. k) k 0 m) ∙ h k m)

pub every_not : (test : ℕ → Bool) (n i : ℕ) → i < n → test i ≡ false → false ≡ every n test
every_not test n i h e =
    sym (all_fails test (tabulate n (λ k. k)) 0 i (rw (length_tabulate n (λ k. k)) h) (ap test (get_d_tabulate n (λ k. k) i 0 h) ∙ e))

pub every_elim : (test : ℕ → Bool) (n : ℕ) → every n test ≡ true → (i : ℕ) → i < n → test i ≡ true
every_elim test n e i h =
    ap test (sym (get_d_tabulate n (λ k. k) i 0 h)) ∙ all_elim test (tabulate n (λ k. k)) 0 e i (rw (length_tabulate n (λ k. k)) h)

module _ {test : ℕ → Bool} {i : ℕ} (p : Passed test i) where
  pub passed_more : test i ≡ true → Passed test (i + 1)
  passed_more h = record { passed = below_more (λ (k : ℕ). test k ≡ true) i p.passed h }

  pub passed_all : {n : ℕ} → n ≤ i → true ≡ every n test
  passed_all {n} h = sym (every_intro test n (λ k l. p.passed k (omega arith)))

  -- a test that the code makes of i
  module _ (b : Bool) (e : b ≡ test i) where
    pub passed_next : not b ≡ false → Passed test (i + 1)
    passed_next h = passed_more (sym e ∙ not-false b h)

-- a sum is 0 exactly if each number is
pub sum_none : (n : ℕ) (f : ℕ → ℕ) → every n (λ i. eqb (f i) 0) ≡ eqb (sum_to n f) 0
sum_none n f = go (ℕ_discrete (sum_to n f) 0)
  where
    none : (t : Bool) → every n (λ i. eqb (f i) 0) ≡ t → (sum_to n f ≡ 0 → ⊥) → every n (λ i. eqb (f i) 0) ≡ false
    none false e h = e
    none true e h = absurd (h (sum_ext n f (λ i. 0) (λ i l. eqb-true _ _ (every_elim (λ i. eqb (f i) 0) n e i l)) ∙ sum_zero n))

    go : Dec (sum_to n f ≡ 0) → every n (λ i. eqb (f i) 0) ≡ eqb (sum_to n f) 0
    go (yes e) = every_intro (λ i. eqb (f i) 0) n (λ i l. let z : f i ≡ 0 = omega (arith, sum_term n f i l) in eq-eqb _ _ z) ∙ sym (eq-eqb _ _ e)
    go (no h) = none _ refl h ∙ sym (ne_eqb _ _ h)
