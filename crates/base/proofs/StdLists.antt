-- The words of `Lists` and std's own. Assumes nothing.
use mathlib.Core.Path.{◌≡◌, refl, sym, ap, ◌∙◌}
use mathlib.Core.Bool.{Bool, ◌&&◌}
use mathlib.Core.List.{List}
use Prim.Native.Nat.{ℕ, zero, suc, ◌+◌, ◌<◌, ◌≤◌}
use native.Mathlib.Omega.{arith}
use lib.ListN.{length, get_or}
use denote.Param.Members.{Mut}
use Rattle.std.specs.Array.{IsFromFnResult, IsFromFnResultFrom}
use Rattle.std.specs.Fn.{Called}
use Rattle.std.specs.List.{list_all, zip}
use Rattle.std.proofs.lemmas.List.Recursion.{same_from_clauses}
use Rattle.std.proofs.lemmas.Slice.Zip.{length-zip, get_or-zip}
use Rattle.base.specs.Lists.{all, every, tabulate}
use Rattle.base.proofs.Every.{every_place, every_ext}
use Rattle.base.proofs.Tabulated.{tabulate_get_d}

-- every element passes a test
pub all_listed : {A : Type 0} (f : A → Bool) (l : List A) → list_all f l ≡ all f l
unfolding all
all_listed f l = same_from_clauses (list_all f) (all f) (λ x b. f x && b) refl (λ _ _. refl) (λ _ _. refl) l

-- every pair of two lists, of which the second is no shorter
pub every_zipped : {A B : Type 0} (test : A × B → Bool) (l : List A) (m : List B) (d : A × B) → length l ≤ length m
    → list_all test (zip l m) ≡ every (length l) (λ i. test (get_or l i d.0, get_or m i d.1))
every_zipped test l m d h =
    let e : length (zip l m) ≡ length l = omega (arith, length-zip l m) in
    all_listed test (zip l m)
    ∙ sym (every_place test (zip l m) d)
    ∙ rw e (every_ext (length l) _ _ (λ i k. ap test (get_or-zip l m i d k (omega arith))))

-- an array that `from_fn` made of a closure that gives v, whatever was called before
module _ {F B : Type 0} (g : Mut F (ℕ × Unit {0}) B) (f : F) (v : ℕ → B) (gives : (i : ℕ) (x : B) (q : F) → Called g f (i, tt) x q → (x ≡ v i) × (q ≡ f)) where
  from_fn_at : (l : List B) (d : B) (i n : ℕ) → IsFromFnResultFrom g f l i n → (k : ℕ) → k < n → get_or l (i + k) d ≡ v (i + k)
  from_fn_at l d i zero m k h = absurd (omega arith)
  from_fn_at l d i (suc n) m zero h = let z : i + 0 ≡ i = omega arith in rw z (m.2.1 d ∙ (gives i m.1 m.0 m.3).0)
  from_fn_at l d i (suc n) m (suc k) h =
      let z : i + suc k ≡ i + 1 + k = omega arith in
      rw z (from_fn_at l d (i + 1) n (rw (gives i m.1 m.0 m.3).1 at m.4) k (omega arith))

  pub from_fn_listed : (l : List B) (n : ℕ) (d : B) → IsFromFnResult g f l n → l ≡ tabulate n v
  from_fn_listed l n d m =
      sym (tabulate_get_d l n d v m.long (λ i k. let z : 0 + i ≡ i = omega arith in sym (rw z at (from_fn_at l d 0 n m.each i k))))
