-- Laws on finite sums, of a function below a number and over a list. Assumes nothing.
use mathlib.Core.Path.{◌≡◌, refl, sym, ap, ◌∙◌}
use mathlib.Core.Logic.{⊎_elim}
use mathlib.Core.List.Memᴰ.{head as here}
use mathlib.Core.List.Memᴰ.{tail as there}
use mathlib.Core.List.{List, [], ◌∷◌, ◌++◌, map, Memᴰ as Member}
use mathlib.Core.List.Memᴰ.{cases_cons as member-cases}
use mathlib.Core.List.Memᴰ.{not-nil as member-none}
use Prim.Native.Nat.{ℕ, zero, suc, ◌+◌, ◌-◌, ◌*◌, ◌≤◌, ◌<◌}
use native.Mathlib.Nat.{le_of_suc-le-suc, not-suc-le-zero, eq-or-lt_of_le, zero-mul, mul-zero, mul-add, suc-mul}
use native.Mathlib.Omega.{arith}
use lib.ListN.{length, get_or}
use Rattle.base.specs.Lists.{tabulate, sum, sum_to}

pub sum_ext : (n : ℕ) (f g : ℕ → ℕ) → ((j : ℕ) → j < n → f j ≡ g j) → sum_to n f ≡ sum_to n g
unfolding sum_to
sum_ext zero f g h = refl
sum_ext (suc n) f g h = omega (arith, sum_ext n f g (λ j l. h j (omega arith)), h n (omega arith))

pub sum_le : (n : ℕ) (f g : ℕ → ℕ) → ((j : ℕ) → j < n → f j ≤ g j) → sum_to n f ≤ sum_to n g
unfolding sum_to
sum_le zero f g h = omega arith
sum_le (suc n) f g h = omega (arith, sum_le n f g (λ j l. h j (omega arith)), h n (omega arith))

pub sum_lt : (n : ℕ) (f g : ℕ → ℕ) (k : ℕ) → k < n → f k < g k → ((j : ℕ) → j < n → f j ≤ g j) → sum_to n f < sum_to n g
unfolding sum_to
sum_lt zero f g k h s e = absurd (not-suc-le-zero h)
sum_lt (suc n) f g k h s e = ⊎_elim
    (λ q. let a : f k ≡ f n = ap f q in
    let b : g k ≡ g n = ap g q in
    omega (arith, sum_le n f g (λ j l. e j (omega arith))))
    (λ l. omega (arith, sum_lt n f g k l s (λ j i. e j (omega arith)), e n (omega arith)))
    (eq-or-lt_of_le (le_of_suc-le-suc h))

pub sum_zero : (n : ℕ) → sum_to n (λ j. 0) ≡ 0
unfolding sum_to
sum_zero zero = refl
sum_zero (suc n) = omega (arith, sum_zero n)

pub sum_add : (n : ℕ) (f g : ℕ → ℕ) → sum_to n (λ j. f j + g j) ≡ sum_to n f + sum_to n g
unfolding sum_to
sum_add zero f g = refl
sum_add (suc n) f g = omega (arith, sum_add n f g)

pub sum_sub : (n : ℕ) (f g : ℕ → ℕ) → ((j : ℕ) → j < n → f j ≤ g j) → sum_to n (λ j. g j - f j) + sum_to n f ≡ sum_to n g
unfolding sum_to
sum_sub zero f g h = refl
sum_sub (suc n) f g h = omega (arith, sum_sub n f g (λ j l. h j (omega arith)), h n (omega arith))

pub sum_mul : (n w : ℕ) (f : ℕ → ℕ) → sum_to n (λ j. w * f j) ≡ w * sum_to n f
unfolding sum_to
sum_mul zero w f = sym (mul-zero w)
sum_mul (suc n) w f = omega (arith, sum_mul n w f, mul-add w (sum_to n f) (f n))

pub sum_swap : (n k : ℕ) (f : ℕ → ℕ → ℕ) → sum_to n (λ i. sum_to k (λ j. f i j)) ≡ sum_to k (λ j. sum_to n (λ i. f i j))
unfolding sum_to
sum_swap zero k f = sym (sum_zero k)
sum_swap (suc n) k f = omega (arith, sum_swap n k f, sum_add k (λ j. sum_to n (λ i. f i j)) (λ j. f n j))

-- a sum of numbers up to 1
pub sum_ones : (n : ℕ) (f : ℕ → ℕ) → ((j : ℕ) → f j ≤ 1) → sum_to n f ≤ n
unfolding sum_to
sum_ones zero f h = omega arith
sum_ones (suc n) f h = omega (arith, sum_ones n f h, h n)

-- a term is at most the sum
pub sum_term : (n : ℕ) (f : ℕ → ℕ) (k : ℕ) → k < n → f k ≤ sum_to n f
unfolding sum_to
sum_term zero f k h = absurd (not-suc-le-zero h)
sum_term (suc n) f k h = ⊎_elim (λ q. let a : f k ≡ f n = ap f q in omega arith) (λ l. omega (arith, sum_term n f k l)) (eq-or-lt_of_le (le_of_suc-le-suc h))

-- the first term apart
pub sum_front : (n : ℕ) (f : ℕ → ℕ) → sum_to (suc n) f ≡ f 0 + sum_to n (λ j. f (suc j))
unfolding sum_to
sum_front zero f = omega arith
sum_front (suc n) f = omega (arith, sum_front n f)

-- the sum of a list that is made of a function
pub sum_map {ℓ} : {A : Type ℓ} (h : A → ℕ) (n : ℕ) (f : ℕ → A) → sum (map h (tabulate n f)) ≡ sum_to n (λ k. h (f k))
unfolding sum tabulate sum_to
sum_map h zero f = refl
sum_map h (suc n) f = ap (λ (x : ℕ). h (f 0) + x) (sum_map h n (λ k. f (suc k))) ∙ sym (sum_front n (λ k. h (f k)))

-- nothing is added beyond m
pub sum_beyond : (m n : ℕ) (f : ℕ → ℕ) → m ≤ n → ((j : ℕ) → m ≤ j → j < n → f j ≡ 0) → sum_to n f ≡ sum_to m f
unfolding sum_to
sum_beyond m zero f h z = let e : m ≡ 0 = omega arith in rw e refl
sum_beyond m (suc n) f h z = ⊎_elim
    (λ e. ap (λ (k : ℕ). sum_to k f) (sym e))
    (λ l. omega (arith, sum_beyond m n f (le_of_suc-le-suc l) (λ j p q. z j p (omega arith)), z n (le_of_suc-le-suc l) (omega arith)))
    (eq-or-lt_of_le h)

pub sum_add_range : (n m : ℕ) (f : ℕ → ℕ) → sum_to (n + m) f ≡ sum_to n f + sum_to m (λ j. f (n + j))
unfolding sum_to
sum_add_range n zero f = let e : n + 0 ≡ n = omega arith in rw e (omega arith)
sum_add_range n (suc m) f = let e : n + suc m ≡ suc (n + m) = omega arith in rw e (omega (arith, sum_add_range n m f))

-- r rows of c
pub sum_rows : (r c : ℕ) (f : ℕ → ℕ) → sum_to (r * c) f ≡ sum_to r (λ i. sum_to c (λ j. f (i * c + j)))
unfolding sum_to
sum_rows zero c f = let e : 0 * c ≡ 0 = omega arith in rw e refl
sum_rows (suc r) c f =
    let e : suc r * c ≡ r * c + c = suc-mul r c in
    rw e (omega (arith, sum_add_range (r * c) c f, sum_rows r c f))

pub sum_same : (n c : ℕ) → sum_to n (λ j. c) ≡ n * c
unfolding sum_to
sum_same zero c = sym (zero-mul c)
sum_same (suc n) c = omega (arith, sum_same n c)

-- functions that differ at one place
pub sum_one_more : (n : ℕ) (f g : ℕ → ℕ) (k v : ℕ) → k < n → g k ≡ f k + v → ((j : ℕ) → j < n → (j ≡ k → ⊥) → g j ≡ f j)
    → sum_to n g ≡ sum_to n f + v
unfolding sum_to
sum_one_more zero f g k v h e o = absurd (not-suc-le-zero h)
sum_one_more (suc n) f g k v h e o = ⊎_elim
    (λ q. let a : f k ≡ f n = ap f q in
    let b : g k ≡ g n = ap g q in
    omega (arith, sum_ext n g f (λ j l. o j (omega arith) (λ r. omega arith))))
    (λ l. omega (arith, sum_one_more n f g k v l e (λ j i. o j (omega arith)), o n (omega arith) (λ r. omega arith)))
    (eq-or-lt_of_le (le_of_suc-le-suc h))

-- sums over a list
module _ {ℓ} {A : Type ℓ} where
  pub list_append : (f : A → ℕ) (h l : List A) → sum (map f (h ++ l)) ≡ sum (map f h) + sum (map f l)
  unfolding sum
  list_append f [] l = omega arith
  list_append f (x ∷ h) l = omega (arith, list_append f h l)

  pub list_add : (f g : A → ℕ) (l : List A) → sum (map (λ x. f x + g x) l) ≡ sum (map f l) + sum (map g l)
  unfolding sum
  list_add f g [] = refl
  list_add f g (x ∷ l) = omega (arith, list_add f g l)

  pub list_ext : (f g : A → ℕ) (l : List A) → ((x : A) → Member x l → f x ≡ g x) → sum (map f l) ≡ sum (map g l)
  unfolding sum
  list_ext f g [] h = refl
  list_ext f g (x ∷ l) h = omega (arith, h x (here refl), list_ext f g l (λ y m. h y (there m)))

  pub list_zero : (l : List A) → sum (map (λ x. 0) l) ≡ 0
  unfolding sum
  list_zero [] = refl
  list_zero (x ∷ l) = omega (arith, list_zero l)

  pub list_le : (f g : A → ℕ) (l : List A) → ((x : A) → Member x l → f x ≤ g x) → sum (map f l) ≤ sum (map g l)
  unfolding sum
  list_le f g [] h = omega arith
  list_le f g (y ∷ l) h = omega (arith, h y (here refl), list_le f g l (λ x m. h x (there m)))

  pub list_lt : (f g : A → ℕ) (l : List A) → ((x : A) → Member x l → f x ≤ g x) → (x : A) → Member x l → f x < g x → sum (map f l) < sum (map g l)
  unfolding sum
  list_lt f g [] h x m s = absurd (member-none m)
  list_lt f g (y ∷ l) h x m s = ⊎_elim
      (λ e. omega (arith, list_le f g l (λ z k. h z (there k)), ap f e, ap g e))
      (λ k. omega (arith, h y (here refl), list_lt f g l (λ z j. h z (there j)) x k s))
      (member-cases m)

  pub list_length : (f : A → ℕ) (l : List A) → ((x : A) → f x ≤ 1) → sum (map f l) ≤ length l
  unfolding sum
  list_length f [] h = omega arith
  list_length f (y ∷ l) h = omega (arith, h y, list_length f l h)

  -- by the places of the list
  pub sum_places : (f : A → ℕ) (l : List A) (d : A) → sum (map f l) ≡ sum_to (length l) (λ j. f (get_or l j d))
  unfolding sum sum_to
  sum_places f [] d = refl
  sum_places f (x ∷ l) d = ap (λ (n : ℕ). f x + n) (sum_places f l d) ∙ sym (sum_front (length l) (λ j. f (get_or (x ∷ l) j d)))
