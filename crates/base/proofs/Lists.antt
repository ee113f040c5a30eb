-- Laws on lists: a list made of a function, a test of every element. Assumes nothing.
use mathlib.Core.Path.{◌≡◌, refl, sym, ap, subst, ◌∙◌}
use mathlib.Core.Bool.{Bool, true, false, ◌&&◌, false≢true, and_assoc}
use mathlib.Core.Logic.{⊎_elim}
use mathlib.Core.List.Memᴰ.{head as here}
use mathlib.Core.List.Memᴰ.{tail as there}
use mathlib.Core.List.{List, [], ◌∷◌, ◌++◌, map, Memᴰ as Member}
use mathlib.Core.List.Memᴰ.{cases_cons as member-cases}
use mathlib.Core.List.Memᴰ.{not-nil as member-none}
use Prim.Native.Nat.{ℕ, zero, suc, ◌+◌, ◌<◌, suc-le-suc}
use native.Mathlib.Nat.{not-suc-le-zero, le_of_suc-le-suc}
use native.Mathlib.Omega.{arith}
use borrow.Author.Count.{below_more}
use lib.ListN.{length, get_or, set}
use lib.Seq.{get_or-set_same, get_or-set_other}
use Rattle.base.specs.Lists.{tabulate, all}

pub and_left : (a b : Bool) → (a && b) ≡ true → a ≡ true
and_left true b h = refl
and_left false b h = h

pub and_right : (a b : Bool) → (a && b) ≡ true → b ≡ true
and_right true b h = h
and_right false b h = absurd (false≢true h)

module _ {ℓ} {A : Type ℓ} where
  pub length_tabulate : (n : ℕ) (f : ℕ → A) → length (tabulate n f) ≡ n
  unfolding tabulate
  length_tabulate zero f = refl
  length_tabulate (suc n) f = ap suc (length_tabulate n (λ i. f (suc i)))

  pub get_d_tabulate : (n : ℕ) (f : ℕ → A) (i : ℕ) (d : A) → i < n → get_or (tabulate n f) i d ≡ f i
  unfolding tabulate
  get_d_tabulate zero f i d h = absurd (not-suc-le-zero h)
  get_d_tabulate (suc n) f zero d h = refl
  get_d_tabulate (suc n) f (suc i) d h = get_d_tabulate n (λ i. f (suc i)) i d (le_of_suc-le-suc h)

  pub tabulate_ext : (n : ℕ) (f g : ℕ → A) → ((i : ℕ) → i < n → f i ≡ g i) → tabulate n f ≡ tabulate n g
  unfolding tabulate
  tabulate_ext zero f g h = refl
  tabulate_ext (suc n) f g h =
      let e : f 0 ≡ g 0 = h 0 (omega arith) in
      let es : tabulate n (λ i. f (suc i)) ≡ tabulate n (λ i. g (suc i)) = tabulate_ext n _ _ (λ i l. h (suc i) (suc-le-suc l)) in
      cc

  -- every element passes a test exactly if the element at each place does
  pub all_intro : (f : A → Bool) (l : List A) (d : A) → ((i : ℕ) → i < length l → f (get_or l i d) ≡ true) → all f l ≡ true
  unfolding all
  all_intro f [] d h = refl
  all_intro f (x ∷ l) d h = rw (h 0 (omega arith)) (all_intro f l d (λ i p. h (suc i) (suc-le-suc p)))

  pub all_elim : (f : A → Bool) (l : List A) (d : A) → all f l ≡ true → (i : ℕ) → i < length l → f (get_or l i d) ≡ true
  unfolding all
  all_elim f [] d h i p = absurd (not-suc-le-zero p)
  all_elim f (x ∷ l) d h zero p = and_left (f x) (all f l) h
  all_elim f (x ∷ l) d h (suc i) p = all_elim f l d (and_right (f x) (all f l) h) i (le_of_suc-le-suc p)

  pub all_fails : (f : A → Bool) (l : List A) (d : A) (i : ℕ) → i < length l → f (get_or l i d) ≡ false → all f l ≡ false
  all_fails f l d i p e = go (all f l) refl
    where
      go : (b : Bool) → all f l ≡ b → all f l ≡ false
      go false q = q
      go true q = absurd (false≢true (sym e ∙ all_elim f l d q i p))

pub map_tabulate {ℓ κ} : {A : Type ℓ} {B : Type κ} (h : A → B) (n : ℕ) (f : ℕ → A) → map h (tabulate n f) ≡ tabulate n (λ i. h (f i))
unfolding tabulate
map_tabulate h zero f = refl
map_tabulate h (suc n) f = ap (λ l. h (f 0) ∷ l) (map_tabulate h n (λ i. f (suc i)))

module _ {ℓ} {A : Type ℓ} (f : A → Bool) where
  pub all_append : (l k : List A) → all f (l ++ k) ≡ (all f l && all f k)
  unfolding all
  all_append [] k = refl
  all_append (x ∷ l) k = ap (λ b. f x && b) (all_append l k) ∙ sym (and_assoc (f x) (all f l) (all f k))

  pub all_tabulate : (n : ℕ) (h : ℕ → A) → ((i : ℕ) → i < n → f (h i) ≡ true) → all f (tabulate n h) ≡ true
  unfolding all tabulate
  all_tabulate zero h e = refl
  all_tabulate (suc n) h e = rw (e 0 (omega arith)) (all_tabulate n (λ i. h (suc i)) (λ i p. e (suc i) (suc-le-suc p)))

  pub tabulate_all : (n : ℕ) (h : ℕ → A) → all f (tabulate n h) ≡ true → (i : ℕ) → i < n → f (h i) ≡ true
  unfolding all tabulate
  tabulate_all zero h e i p = absurd (not-suc-le-zero p)
  tabulate_all (suc n) h e zero p = and_left (f (h 0)) _ e
  tabulate_all (suc n) h e (suc i) p = tabulate_all n (λ i. h (suc i)) (and_right (f (h 0)) _ e) i (le_of_suc-le-suc p)

pub and_both : {a b : Bool} → a ≡ true → b ≡ true → (a && b) ≡ true
and_both {a} {b} h k = rw h k

-- a loop that stores at each place in turn: what holds of the places before holds of one more
pub each_more : (P : ℕ → ℕ → Type 0) (l : List ℕ) (k v : ℕ) → k < length l → ((j : ℕ) → j < k → P j (get_or l j 0)) → P k v
    → (j : ℕ) → j < k + 1 → P j (get_or (set l k v) j 0)
each_more P l k v h f new =
    below_more (λ (j : ℕ). P j (get_or (set l k v) j 0)) k
    (λ j p. subst (P j) (sym (get_or-set_other l k j v 0 (λ e. omega arith))) (f j p))
    (subst (P k) (sym (get_or-set_same l k v 0 h)) new)

module _ {ℓ} {A : Type ℓ} where
  -- every element passes a test exactly if each member does; a member of a list made of a function
  pub all_at_member : (t : A → Bool) (l : List A) → all t l ≡ true → {x : A} → Member x l → t x ≡ true
  unfolding all
  all_at_member t [] h m = absurd (member-none m)
  all_at_member t (y ∷ l) h m = ⊎_elim (λ e. ap t e ∙ and_left (t y) (all t l) h) (λ k. all_at_member t l (and_right (t y) (all t l) h) k) (member-cases m)

  pub all_of_members : (t : A → Bool) (l : List A) → ((x : A) → Member x l → t x ≡ true) → all t l ≡ true
  unfolding all
  all_of_members t [] h = refl
  all_of_members t (y ∷ l) h = rw (h y (here refl)) (all_of_members t l (λ x m. h x (there m)))

  pub tabulate_member {κ} : (P : A → Type κ) {x : A} (n : ℕ) (f : ℕ → A) → Member x (tabulate n f) → ((i : ℕ) → i < n → P (f i)) → P x
  unfolding tabulate
  tabulate_member P zero f m h = absurd (member-none m)
  tabulate_member P (suc n) f m h = ⊎_elim
      (λ e. subst P (sym e) (h 0 (omega arith)))
      (λ r. tabulate_member P n (λ i. f (suc i)) r (λ i l. h (suc i) (suc-le-suc l)))
      (member-cases m)
