-- Laws on the first number, and on the first element of a list, that passes a test. Assumes nothing.
use mathlib.Core.Path.{◌≡◌, refl, sym, ap, ◌∙◌}
use mathlib.Core.Bool.{Bool, true, false, not, cond, false≢true}
use mathlib.Core.Logic.{⊎_elim}
use mathlib.Core.List.Memᴰ.{head as here}
use mathlib.Core.List.Memᴰ.{tail as there}
use mathlib.Core.List.{List, [], ◌∷◌, ◌++◌, map, Memᴰ as Member}
use mathlib.Core.List.Memᴰ.{cases_cons as member-cases}
use mathlib.Core.List.Memᴰ.{not-nil as member-none}
use Prim.Native.Nat.{ℕ, zero, suc, ◌+◌, ◌<◌, ◌≤◌}
use native.Mathlib.Decide.{ℕ_discrete}
use native.Mathlib.Nat.{le_refl}
use native.Mathlib.Omega.{arith}
use Rattle.base.specs.Lists.{tabulate, all}
use Rattle.base.specs.Search.{first_from, first_that, FirstOf}
use Rattle.base.proofs.Lists.{and_both}

-- m passes, and no number from n on before it does
pub record First (test : ℕ → Bool) (n m : ℕ) : Type 0 where
  pub from : n ≤ m
  pub passes : test m ≡ true
  pub none_before : (k : ℕ) → n ≤ k → k < m → test k ≡ false

module _ (test : ℕ → Bool) where
  first_later : {n m : ℕ} → test n ≡ false → First test (suc n) m → First test n m
  first_later {n} {m} e f = record {
    from = omega (arith, f.from);
    passes = f.passes;
    none_before = λ k l h. go k l h (ℕ_discrete k n);
  }
    where
      go : (k : ℕ) → n ≤ k → k < m → Dec (k ≡ n) → test k ≡ false
      go k l h (yes q) = rw q e
      go k l h (no q) = f.none_before k (omega arith) h

  -- the search finds it, if it goes as far as some number that passes
  pub first_found : (n count x : ℕ) → n ≤ x → x < n + count → test x ≡ true → First test n (first_from test n count)
  unfolding first_from
  first_found n zero x l h e = absurd (omega arith)
  first_found n (suc count) x l h e = go (test n) refl (first_found (suc n) count x)
    where
      go : (b : Bool) → test n ≡ b → (suc n ≤ x → x < suc n + count → test x ≡ true → First test (suc n) (first_from test (suc n) count))
          → First test n (cond b n (first_from test (suc n) count))
      go true q later = record { from = le_refl n; passes = q; none_before = λ k a b. absurd (omega arith) }
      go false q later =
          let other : n ≡ x → ⊥ = λ s. false≢true (sym q ∙ (rw s e)) in
          first_later q (later (omega (arith, other)) (omega arith) e)

-- the first element of a list
module _ {ℓ} {A : Type ℓ} (test : A → Bool) where
  pub first_append : (l m : List A) (other : A) → first_that test (l ++ m) other ≡ first_that test l (first_that test m other)
  unfolding first_that
  first_append [] m other = refl
  first_append (x ∷ l) m other = ap (cond (test x) x) (first_append l m other)

  -- of a list made of a function, the element at the first place that passes
  pub first_at : (n : ℕ) (f : ℕ → A) (other : A) (m : ℕ) → m < n → ((k : ℕ) → k < m → test (f k) ≡ false) → test (f m) ≡ true
      → first_that test (tabulate n f) other ≡ f m
  unfolding first_that tabulate
  first_at zero f other m h none is = absurd (omega arith)
  first_at (suc n) f other zero h none is = rw is refl
  first_at (suc n) f other (suc m) h none is =
      rw (none 0 (omega arith)) (first_at n (λ i. f (suc i)) other m (omega arith) (λ k l. none (suc k) (omega arith)) is)

  pub first_none : (n : ℕ) (f : ℕ → A) (other : A) → ((k : ℕ) → k < n → test (f k) ≡ false) → first_that test (tabulate n f) other ≡ other
  unfolding first_that tabulate
  first_none zero f other none = refl
  first_none (suc n) f other none = rw (none 0 (omega arith)) (first_none n (λ i. f (suc i)) other (λ k l. none (suc k) (omega arith)))

  -- where some element passes, the first that does is found
  pub first_found_in : (l : List A) (other : A) {z : A} → Member z l → test z ≡ true → FirstOf test l (first_that test l other)
  unfolding first_that all
  first_found_in [] other m e = absurd (member-none m)
  first_found_in (x ∷ l) other {z} m e = go (test x) refl (λ y. first_found_in l other {z = y})
    where
      go : (b : Bool) → test x ≡ b → ((z : A) → Member z l → test z ≡ true → FirstOf test l (first_that test l other))
          → FirstOf test (x ∷ l) (cond b x (first_that test l other))
      go true q later = record { before = []; later = l; list = refl; passes = q; none_before = refl }
      go false q later =
          let f = later z (⊎_elim (λ s. absurd (false≢true (sym q ∙ sym (ap test s) ∙ e))) (λ k. k) (member-cases m)) e in
          record {
            before = x ∷ f.before;
            later = f.later;
            list = ap (λ k. x ∷ k) f.list;
            passes = f.passes;
            none_before = and_both (ap not q) f.none_before;
          }

-- what is found has what every element has, and what stands for none
pub first_keeps {ℓ κ} : {A : Type ℓ} (test : A → Bool) (P : A → Type κ) (l : List A) {other : A} → ((x : A) → Member x l → P x) → P other → P (first_that test l other)
unfolding first_that
first_keeps test P [] h k = k
first_keeps test P (x ∷ l) {other} h k = go (test x) (first_keeps test P l (λ y m. h y (there m)) k)
  where
    go : (b : Bool) → P (first_that test l other) → P (cond b x (first_that test l other))
    go true r = h x (here refl)
    go false r = r

-- two tests that agree on every element
pub first_same {ℓ} : {A : Type ℓ} (f g : A → Bool) (l : List A) (other : A) → ((x : A) → Member x l → f x ≡ g x) → first_that f l other ≡ first_that g l other
unfolding first_that
first_same f g [] other h = refl
first_same f g (x ∷ l) other h =
    let e : f x ≡ g x = h x (here refl) in
    let r : first_that f l other ≡ first_that g l other = first_same f g l other (λ y m. h y (there m)) in
    rw (e, r) refl

-- of a list made of another
pub first_map {ℓ κ} : {A : Type ℓ} {B : Type κ} (test : A → Bool) (to : B → A) (l : List B) (other : B)
    → first_that test (map to l) (to other) ≡ to (first_that (λ y. test (to y)) l other)
unfolding first_that
first_map test to [] other = refl
first_map test to (x ∷ l) other = go (test (to x)) (first_map test to l other)
  where
    go : (b : Bool) → first_that test (map to l) (to other) ≡ to (first_that (λ y. test (to y)) l other)
        → cond b (to x) (first_that test (map to l) (to other)) ≡ to (cond b x (first_that (λ y. test (to y)) l other))
    go true r = refl
    go false r = r
