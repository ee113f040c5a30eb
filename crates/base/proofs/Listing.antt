-- What a loop keeps that stores f 0, f 1, .. into a list of n numbers, and what it leaves. Assumes nothing.
use mathlib.Core.Path.{◌≡◌, sym, ap, ◌∙◌}
use mathlib.Core.List.{List}
use Prim.Native.Nat.{ℕ, ◌+◌, ◌<◌, ◌≤◌}
use native.Mathlib.Omega.{arith}
use lib.ListN.{length, get_or, set, length-set}
use Rattle.base.specs.Lists.{tabulate}
use Rattle.base.proofs.Lists.{get_d_tabulate, each_more}
use Rattle.base.proofs.Tabulated.{tabulate_get_d}

-- the first k are stored
pub record ListedTo (n : ℕ) (f : ℕ → ℕ) (l : List ℕ) (k : ℕ) : Type 0 where
  pub len : length l ≡ n
  pub is : (i : ℕ) → i < k → get_or l i 0 ≡ f i

pub listed_none : (n : ℕ) (f : ℕ → ℕ) (l : List ℕ) → length l ≡ n → ListedTo n f l 0
listed_none n f l h = record { len = h; is = λ i p. absurd (omega arith) }

module _ {n : ℕ} {f : ℕ → ℕ} {l : List ℕ} {k : ℕ} (t : ListedTo n f l k) where
  pub listed_more : (x : ℕ) → k < n → x ≡ f k → ListedTo n f (set l k x) (k + 1)
  listed_more x h e = record { len = length-set l k x ∙ t.len; is = each_more (λ i v. v ≡ f i) l k x (omega (arith, t.len)) t.is e }

  pub listed_all : n ≤ k → l ≡ tabulate n f
  listed_all h = sym (tabulate_get_d l n 0 f t.len (λ i p. sym (t.is i (omega arith))))

pub listed_at : (n : ℕ) (f : ℕ → ℕ) (l : List ℕ) → l ≡ tabulate n f → (i : ℕ) → i < n → get_or l i 0 ≡ f i
listed_at n f l e i h = ap (λ (l : List ℕ). get_or l i 0) e ∙ get_d_tabulate n f i 0 h
