-- What the functions on limits keep. Assumes nothing.
use Rattle.std.specs.List.{fold}
use mathlib.Core.Path.{◌≡◌, refl, sym, ◌∙◌}
use mathlib.Core.List.{List, [], ◌∷◌}
use mathlib.Core.Logic.{◌⊎◌, inl, inr}
use Prim.Native.Nat.{ℕ, zero, suc, ◌+◌, ◌-◌, ◌*◌, ◌/◌, ◌≤◌, ◌<◌, min}
use native.Mathlib.Decide.{dec_lt}
use native.Mathlib.Omega.{arith}
use borrow.Author.Tests.{eq-eqb, ne_eqb}
use lib.ListN.{length, get_or}
use Rattle.base.proofs.Listing.{listed_at}
use Rattle.table.proofs.Roundings.{gap_le, rounds_low, rounds_high}
use Rattle.first_rounding.specs.Clauses.{rounded_down}
use Rattle.planning.specs.Rounds.{limit_of}
use Rattle.planning.specs.Clauses.{LimitReady, Rounded, Smallest}

-- the two cases of a limit: the count is e over w rounded down, or one more
module _ (w e q n : ℕ) (p : LimitReady w e q n) where
  pub limit_down : n ≡ q → (q + 1) * w - e ≡ limit_of w e n
  unfolding limit_of
  limit_down h = rw (h, eq-eqb q (e / w) p.quotient) refl

  pub limit_up : (n ≡ q → ⊥) → e - q * w ≡ limit_of w e n
  unfolding limit_of
  limit_up h =
      let other : n ≡ e / w → ⊥ = λ k. h (k ∙ sym p.quotient) in
      let one_more_lem : n - 1 ≡ q = omega (arith, p.quotient, rounds_low w e n p.rounds, rounds_high w e n p.rounds, gap_le w e) in
      rw (ne_eqb n (e / w) other, one_more_lem) refl

pub limit_ready : {w : ℕ} {e q n : List ℕ} {k : ℕ} → Rounded w e n → q ≡ rounded_down w e → k < 169
    → LimitReady w (get_or e k 0) (get_or q k 0) (get_or n k 0)
limit_ready {w} {e} {q} {n} {k} t is h = record {
  quotient = listed_at 169 _ q is k h;
  some = t.some;
  small = t.small;
  entry_small = t.entry_small k;
  rounds = t.rounds k h;
}

-- a list folded by `min` from one of its elements
fold_low : (x : ℕ) (l : List ℕ) → (fold min x l ≤ x) × ((k : ℕ) → k < length l → fold min x l ≤ get_or l k 0)
fold_low x [] = (omega arith, λ k h. absurd (omega arith))
fold_low x (y ∷ l) = (omega (arith, (fold_low (min x y) l).0), at (fold_low (min x y) l))
  where
    at : (fold min (min x y) l ≤ min x y) × ((k : ℕ) → k < length l → fold min (min x y) l ≤ get_or l k 0)
        → (k : ℕ) → k < length (y ∷ l) → fold min (min x y) l ≤ get_or (y ∷ l) k 0
    at t zero h = omega (arith, t.0)
    at t (suc k) h = t.1 k (omega arith)

fold_place : (x : ℕ) (l : List ℕ) → (fold min x l ≡ x) ⊎ ((k : ℕ) × (k < length l) × (fold min x l ≡ get_or l k 0))
fold_place x [] = inl refl
fold_place x (y ∷ l) = go (fold_place (min x y) l) (dec_lt y x)
  where
    go : (fold min (min x y) l ≡ min x y) ⊎ ((k : ℕ) × (k < length l) × (fold min (min x y) l ≡ get_or l k 0)) → Dec (y < x)
        → (fold min (min x y) l ≡ x) ⊎ ((k : ℕ) × (k < length (y ∷ l)) × (fold min (min x y) l ≡ get_or (y ∷ l) k 0))
    go (inl e) (yes h) = inr (0, omega arith, omega arith)
    go (inl e) (no h) = inl (omega arith)
    go (inr p) h = inr (suc p.0, omega (arith, p.1), p.2)

pub smallest_is : (l : List ℕ) {x : ℕ} → length l ≡ 169 → x ≡ fold min (get_or l 0 0) l → Smallest l x
smallest_is l {x} n e = record {
  low = λ k h. rw e ((fold_low (get_or l 0 0) l).1 k (omega arith));
  place = (which (fold_place (get_or l 0 0) l)).0;
  inside = (which (fold_place (get_or l 0 0) l)).1;
  is = (which (fold_place (get_or l 0 0) l)).2;
}
  where
    which : (fold min (get_or l 0 0) l ≡ get_or l 0 0) ⊎ ((k : ℕ) × (k < length l) × (fold min (get_or l 0 0) l ≡ get_or l k 0))
        → (k : ℕ) × (k < 169) × (x ≡ get_or l k 0)
    which (inl p) = (0, omega arith, e ∙ p)
    which (inr p) = (p.0, omega (arith, p.1), e ∙ p.2)

-- the first k entries have lost x times their counts
pub record LostTo (x : ℕ) (e n e' : List ℕ) (k : ℕ) : Type 0 where
  pub len : length e' ≡ 169
  pub is : (i : ℕ) → i < k → get_or e' i 0 ≡ get_or e i 0 - x * get_or n i 0
  pub rest : (i : ℕ) → k ≤ i → get_or e' i 0 ≡ get_or e i 0
