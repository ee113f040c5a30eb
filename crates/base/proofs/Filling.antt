-- Laws on loops that store numbers one after another. Assumes nothing.
use mathlib.Core.Path.{◌≡◌, refl, sym, ap, ◌∙◌}
use mathlib.Core.List.{List, ◌++◌}
use Prim.Native.Nat.{ℕ, ◌+◌, ◌-◌, ◌<◌, ◌≤◌}
use native.Mathlib.Decide.{dec_lt}
use native.Mathlib.Omega.{arith}
use borrow.Author.Count.{below_more}
use lib.ListN.{length, get_or, set, drop, length-set, length-append, length-drop, get_or-append}
use lib.Seq.{ext_get_or, get_or-set_same, get_or-set_other, get_or-append-add, get_or-drop}
use Rattle.base.specs.Lists.{tabulate}
use Rattle.base.specs.Buffers.{written}
use Rattle.base.specs.Clauses.{Filled}
use Rattle.base.proofs.Lists.{length_tabulate, get_d_tabulate}

pub filled_none : (f : ℕ → ℕ) (from : ℕ) (old : List ℕ) → Filled f from old old 0
filled_none f from old = record { len = refl; inside = λ k h. absurd (omega arith); before = λ k h. refl; beyond = λ k h. refl }

module _ {f : ℕ → ℕ} {from : ℕ} {old new : List ℕ} {i : ℕ} (p : Filled f from old new i) where
  pub filled_more : (x : ℕ) → x ≡ f i → from + i < length old → Filled f from old (set new (from + i) x) (i + 1)
  filled_more x e h = record {
    len = length-set new (from + i) x ∙ p.len;
    inside = below_more (λ (k : ℕ). get_or (set new (from + i) x) (from + k) 0 ≡ f k) i
        (λ k l. get_or-set_other new (from + i) (from + k) x 0 (λ q. omega arith) ∙ p.inside k l)
        (get_or-set_same new (from + i) x 0 (omega (arith, p.len)) ∙ e);
    before = λ k l. get_or-set_other new (from + i) k x 0 (λ q. omega arith) ∙ p.before k l;
    beyond = λ k l. get_or-set_other new (from + i) k x 0 (λ q. omega arith) ∙ p.beyond k (omega arith);
  }

  pub filled_to : {n : ℕ} → i ≤ n → n ≤ i → Filled f from old new n
  filled_to {n} a b = let e : i ≡ n = omega arith in rw e at p

-- one run after another
pub filled_join : {f g : ℕ → ℕ} {from i : ℕ} {old mid new : List ℕ} {n : ℕ} → Filled f from old mid i → Filled g (from + i) mid new n
    → ((k : ℕ) → k < n → g k ≡ f (i + k)) → Filled f from old new (i + n)
filled_join {f} {g} {from} {i} {old} {mid} {new} {n} p q e = record {
  len = q.len ∙ p.len;
  inside = λ k h. part k h (dec_lt k i);
  before = λ k h. q.before k (omega arith) ∙ p.before k h;
  beyond = λ k h. q.beyond k (omega arith) ∙ p.beyond k (omega arith);
}
  where
    part : (k : ℕ) → k < i + n → Dec (k < i) → get_or new (from + k) 0 ≡ f k
    part k h (yes l) = q.before (from + k) (omega arith) ∙ p.inside k l
    part k h (no l) =
        let j : i + (k - i) ≡ k = omega arith in
        let a : from + k ≡ from + i + (k - i) = omega arith in
        ap (λ (x : ℕ). get_or new x 0) a ∙ q.inside (k - i) (omega arith) ∙ e (k - i) (omega arith) ∙ ap f j

-- two lists in a row, in the second
get_d_second : (l m : List ℕ) (k : ℕ) → length l ≤ k → get_or (l ++ m) k 0 ≡ get_or m (k - length l) 0
get_d_second l m k h =
    let e : k ≡ length l + (k - length l) = omega arith in
    ap (λ (j : ℕ). get_or (l ++ m) j 0) e ∙ get_or-append-add l m (k - length l) 0

-- a run at the start of a buffer with room
pub filled_written : {f : ℕ → ℕ} {old new : List ℕ} {n : ℕ} → Filled f 0 old new n → n ≤ length old → new ≡ written (tabulate n f) old
filled_written {f} {old} {new} {n} p h =
    ext_get_or 0 new _
    (p.len ∙ sym (length-append (tabulate n f) (drop (length (tabulate n f)) old) ∙ omega (arith, length-drop (length (tabulate n f)) old, length_tabulate n f)))
    (λ k l. part k (dec_lt k n))
  where
    part : (k : ℕ) → Dec (k < n) → get_or new k 0 ≡ get_or (written (tabulate n f) old) k 0
    part k (yes l) =
        let z : 0 + k ≡ k = omega arith in
        (rw z at (p.inside k l)) ∙ sym (get_or-append (tabulate n f) _ 0 k (omega (arith, length_tabulate n f)) ∙ get_d_tabulate n f k 0 l)
    part k (no l) =
        let m : length (tabulate n f) ≤ k = omega (arith, length_tabulate n f) in
        let e : length (tabulate n f) + (k - length (tabulate n f)) ≡ k = omega arith in
        p.beyond k (omega arith)
        ∙ sym (get_d_second (tabulate n f) _ k m ∙ get_or-drop (length (tabulate n f)) old _ 0 ∙ ap (λ (j : ℕ). get_or old j 0) e)

-- the same for a loop that fills a buffer from its start on
module _ {f : ℕ → ℕ} {old new : List ℕ} {i : ℕ} (p : Filled f 0 old new i) where
  pub front_more : (x : ℕ) {n : ℕ} → x ≡ f i → i < n → n ≤ length old → Filled f 0 old (set new i x) (i + 1)
  front_more x e h m = let z : 0 + i ≡ i = omega arith in rw z at (filled_more p x e (omega arith))

  pub front_all : {n : ℕ} → i ≤ n → n ≤ i → n ≤ length old → new ≡ written (tabulate n f) old
  front_all a b h = filled_written (filled_to p a b) h
