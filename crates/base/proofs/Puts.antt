-- Laws on numbers that are put into a buffer one part after another. Assumes nothing.
use mathlib.Core.Path.{◌≡◌, refl, sym, ap, ◌∙◌}
use mathlib.Core.List.{List, [], ◌∷◌, ◌++◌, append-nil, append_assoc}
use Prim.Native.Nat.{ℕ, ◌+◌, ◌*◌, ◌<◌, ◌≤◌}
use native.Mathlib.Nat.{add-zero, zero-add, mul_comm, mul-suc, mul-le-mul_left}
use native.Mathlib.Numerals.{add-one}
use native.Mathlib.Omega.{arith}
use lib.ListN.{length, set, take, drop, length-append, length-drop, take-append-drop}
use lib.Seq.{length-take-le, append_snoc, set_split, take_at, drop-append-add, drop-drop}
use Rattle.base.specs.Lists.{join_to}
use Rattle.base.specs.Buffers.{written, put_at}
use Rattle.base.proofs.Joins.{length_join}

pub length_put : (buffer : List ℕ) (at : ℕ) (new : List ℕ) → at + length new ≤ length buffer → length (put_at buffer at new) ≡ length buffer
unfolding put_at
length_put buffer at new h = simp (length-append, length-drop) (omega (arith, length-take-le at buffer (omega arith)))

-- one put right after another
module _ (old : List ℕ) (at : ℕ) (a b : List ℕ) where
  pub put_put : at + length a ≤ length old → put_at (put_at old at a) (at + length a) b ≡ put_at old at (a ++ b)
  unfolding put_at
  put_put h =
      let left = take at old ++ a in
      let right = drop (at + length a) old in
      let n : length left ≡ at + length a = length-append (take at old) a ∙ ap (λ (k : ℕ). k + length a) (length-take-le at old (omega arith)) in
      let front : take (at + length a) (left ++ right) ≡ left = take_at left right _ n in
      let back : drop (at + length a + length b) (left ++ right) ≡ drop (at + length a + length b) old =
      ap (λ (k : ℕ). drop (k + length b) (left ++ right)) (sym n) ∙ drop-append-add left right (length b) ∙ drop-drop (length b) (at + length a) old
      in
      let end : at + length (a ++ b) ≡ at + length a + length b = omega (arith, length-append a b) in
      rw (front, back, end, append_assoc (take at old) a b) refl

  pub put_then : (mid new : List ℕ) {n : ℕ} → mid ≡ put_at old at a → new ≡ put_at mid n b → n ≡ at + length a → n ≤ length old
      → new ≡ put_at old at (a ++ b)
  put_then mid new {n} e f i h = f ∙ ap (λ (l : List ℕ). put_at l n b) e ∙ ap (λ (k : ℕ). put_at (put_at old at a) k b) i ∙ put_put (omega arith)

-- at the start of a buffer
pub put_start : (old m : List ℕ) → put_at old 0 m ≡ written m old
unfolding put_at
put_start old m = rw (zero-add (length m)) refl

-- copied over the part of a slice that begins at a place and has as many elements
pub put_part : (old new : List ℕ) (at n : ℕ) → length new ≡ n → take at old ++ (new ++ drop n (drop at old)) ≡ put_at old at new
unfolding put_at
put_part old new at n e = rw (drop-drop n at old, ← e) (sym (append_assoc (take at old) new _))

-- one number
pub put_one : (old : List ℕ) (at x : ℕ) → at + 1 ≤ length old → set old at x ≡ put_at old at (x ∷ [])
unfolding put_at
put_one old at x h = rw (add-one at, append_snoc (take at old) x _) (set_split old at x (omega arith))

-- a loop has put some numbers from a place on
pub record Put (old : List ℕ) (at : ℕ) (m new : List ℕ) : Type 0 where
  pub len : length new ≡ length old
  pub is : new ≡ put_at old at m

pub put_nothing : (old : List ℕ) (at : ℕ) → old ≡ put_at old at []
unfolding put_at
put_nothing old at = rw (add-zero at, append-nil (take at old)) (sym (take-append-drop at old))

pub put_none : (old : List ℕ) (at : ℕ) (f : ℕ → List ℕ) → Put old at (join_to 0 f) old
unfolding join_to
put_none old at f = record { len = refl; is = put_nothing old at }

-- part i of n, each of w numbers
pub put_more : (w n : ℕ) (old : List ℕ) (at : ℕ) (f : ℕ → List ℕ) (i : ℕ) (mid new : List ℕ) → ((j : ℕ) → length (f j) ≡ w)
    → Put old at (join_to i f) mid → new ≡ put_at mid (at + w * i) (f i) → i < n → at + w * n ≤ length old → Put old at (join_to (i + 1) f) new
unfolding join_to
put_more w n old at f i mid new u p e l h =
    let room : w * (i + 1) ≤ w * n = mul-le-mul_left w (omega arith) in
    let next : w * (i + 1) ≡ w * i + w = rw (add-one i) (mul-suc w i) in
    record {
      len = ap length e ∙ length_put mid (at + w * i) (f i) (omega (arith, u i, p.len)) ∙ p.len;
      is = rw (add-one i) (put_then old at (join_to i f) (f i) mid new p.is e (omega (arith, length_join i w f u, mul_comm i w)) (omega arith));
    }

-- what a loop has put when it ends
pub put_done : (old : List ℕ) (at : ℕ) (f : ℕ → List ℕ) (i n : ℕ) (new : List ℕ) → Put old at (join_to i f) new → i ≤ n → n ≤ i
    → new ≡ put_at old at (join_to n f)
put_done old at f i n new p a b = let e : i ≡ n = omega arith in rw e at p.is
