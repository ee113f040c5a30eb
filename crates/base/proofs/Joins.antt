-- Laws on lists that are joined of parts, and on what stands where in a list. Assumes nothing.
use mathlib.Core.Path.{◌≡◌, refl, sym, ap, ◌∙◌}
use mathlib.Core.Logic.{⊎_elim}
use mathlib.Core.List.{List, ◌++◌, append-nil, append_assoc}
use Prim.Native.Nat.{ℕ, zero, suc, ◌+◌, ◌*◌, ◌<◌}
use native.Mathlib.Nat.{not-suc-le-zero, le_of_suc-le-suc, eq-or-lt_of_le, suc-mul, add-zero, add-suc}
use native.Mathlib.Omega.{arith}
use lib.ListN.{length, get_or, length-append, get_or-append}
use lib.Seq.{get_or-append-add}
use Rattle.base.specs.Lists.{join_to}

module _ {ℓ} {A : Type ℓ} where
  -- parts of one length
  pub length_join : (n w : ℕ) (f : ℕ → List A) → ((i : ℕ) → length (f i) ≡ w) → length (join_to n f) ≡ n * w
  unfolding join_to
  length_join zero w f h = omega arith
  length_join (suc n) w f h = length-append (join_to n f) (f n) ∙ omega (arith, length_join n w f h, h n, suc-mul n w)

  pub join_ext : (n : ℕ) (f g : ℕ → List A) → ((i : ℕ) → i < n → f i ≡ g i) → join_to n f ≡ join_to n g
  unfolding join_to
  join_ext zero f g h = refl
  join_ext (suc n) f g h =
      let e : join_to n f ≡ join_to n g = join_ext n f g (λ i l. h i (omega arith)) in
      let es : f n ≡ g n = h n (omega arith) in
      cc

  join_add : (n m : ℕ) (f : ℕ → List A) → join_to (n + m) f ≡ join_to n f ++ join_to m (λ i. f (n + i))
  unfolding join_to
  join_add n zero f = rw (add-zero n) (sym (append-nil (join_to n f)))
  join_add n (suc m) f = rw (add-suc n m, join_add n m f) (append_assoc (join_to n f) _ _)

  -- k parts that are joined of n each are joined of k * n
  pub join_join : (k n : ℕ) (f : ℕ → List A) → join_to (k * n) f ≡ join_to k (λ j. join_to n (λ i. f (j * n + i)))
  unfolding join_to
  join_join zero n f = let e : 0 * n ≡ 0 = omega arith in rw e refl
  join_join (suc k) n f = rw (suc-mul k n, join_add (k * n) n f, join_join k n f) refl

-- b has a list from a place on
pub record Holds (b : List ℕ) (at : ℕ) (m : List ℕ) : Type 0 where
  pub is : (k : ℕ) → k < length m → get_or b (at + k) 0 ≡ get_or m k 0

pub holds_all : (b : List ℕ) → Holds b 0 b
holds_all b = record { is = λ k h. let e : 0 + k ≡ k = omega arith in ap (λ (i : ℕ). get_or b i 0) e }

module _ {b : List ℕ} {at : ℕ} where
  pub holds_left : {m : List ℕ} (l : List ℕ) → Holds b at (m ++ l) → Holds b at m
  holds_left {m} l h = record { is = λ k p. h.is k (omega (arith, length-append m l)) ∙ get_or-append m l 0 k p }

  pub holds_right : (m : List ℕ) {l : List ℕ} {place : ℕ} → Holds b at (m ++ l) → at + length m ≡ place → Holds b place l
  holds_right m {l} {place} h e = record {
    is = λ k p.
        let i : place + k ≡ at + (length m + k) = omega arith in
        ap (λ (j : ℕ). get_or b j 0) i ∙ h.is (length m + k) (omega (arith, length-append m l)) ∙ get_or-append-add m l k 0;
  }

  -- part i of parts of one length
  pub holds_part : (n w : ℕ) (f : ℕ → List ℕ) → ((i : ℕ) → length (f i) ≡ w) → Holds b at (join_to n f) → (i : ℕ) → i < n
      → {place : ℕ} → at + i * w ≡ place → Holds b place (f i)
  unfolding join_to
  holds_part zero w f u h i l e = absurd (not-suc-le-zero l)
  holds_part (suc n) w f u h i l {place} e = ⊎_elim
      (λ q. let o : at + n * w ≡ place = rw q at e in rw q (holds_right (join_to n f) h (omega (arith, length_join n w f u))))
      (λ q. holds_part n w f u (holds_left (f n) h) i q e)
      (eq-or-lt_of_le (le_of_suc-le-suc l))
