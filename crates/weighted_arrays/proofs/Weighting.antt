-- Sums of arrays times a factor, array by array, and what they are compared with. Assumes nothing.
use mathlib.Core.Path.{◌≡◌, ap, ap₂, ◌∙◌}
use mathlib.Core.List.{List}
use Prim.Native.Nat.{ℕ, ◌+◌, ◌*◌, ◌<◌, ◌≤◌}
use native.Mathlib.Nat.{mul-le-mul_right, add-mul, one-mul}
use native.Mathlib.Omega.{arith}
use lib.ListN.{length, get_or, replicate, length-replicate, get_or-replicate}
use Rattle.base.specs.Lists.{sum_to}
use Rattle.base.specs.Clauses.{Filled}
use Rattle.base.proofs.SumLoops.{sum_more}
use Rattle.weighted_arrays.specs.Plan.{Weighted, array_at}
use Rattle.weighted_arrays.specs.Clauses.{max_product, Addable, Increased, SumsTo}

-- the first i sums are increased
pub record IncreasedTo (factor : ℕ) (counts old new : List ℕ) (i : ℕ) : Type 0 where
  pub filled : Filled (λ j. get_or old j 0 + factor * get_or counts j 0) 0 old new i
  pub small : (j : ℕ) → j < i → factor * get_or counts j 0 ≤ max_product

-- array by array
pub sums_none : (f : ℕ → ℕ) (l : List Weighted) (n : ℕ) → n ≤ 144 → SumsTo f l n 0 (replicate 144 0)
unfolding sum_to
sums_none f l n h = record {
  len = length-replicate {A = ℕ} 144 0;
  is = λ i m. get_or-replicate {A = ℕ} 144 i 0 0 (omega arith);
  small = λ i m. omega (arith, get_or-replicate {A = ℕ} 144 i 0 0 (omega arith));
}

module _ {f : ℕ → ℕ} {l : List Weighted} {n k : ℕ} {sums : List ℕ} (p : SumsTo f l n k sums) {counts : List ℕ} (e : length counts ≡ n) where
  pub sums_addable : n ≤ 144 → k ≤ 170 → Addable counts sums
  sums_addable h m = record {
    room = omega arith;
    sums_length = p.len;
    small = λ i q. let a : k * max_product ≤ 170 * max_product = mul-le-mul_right max_product m in omega (arith, p.small i (omega arith));
  }

  pub sums_more_at : {factor : ℕ} {new : List ℕ} → Increased factor counts sums new → factor ≡ f k
      → ((j : ℕ) → j < n → get_or counts j 0 ≡ get_or (array_at l k).counts j 0) → SumsTo f l n (k + 1) new
  sums_more_at {factor} {new} i q c = record {
    len = i.filled.len ∙ p.len;
    is = λ j h.
        let z : 0 + j ≡ j = omega arith in
        let at : get_or new j 0 ≡ get_or sums j 0 + factor * get_or counts j 0 = rw z at (i.filled.inside j (omega arith)) in
        let product : factor * get_or counts j 0 ≡ f k * get_or (array_at l k).counts j 0 = ap₂ ◌*◌ q (c j h) in
        omega (arith, at, product, p.is j h, sum_more (λ m. f m * get_or (array_at l m).counts j 0) k);
    small = λ j h. omega (arith, i.small j (omega arith), p.small j h, add-mul k 1 max_product, one-mul max_product);
  }

  pub sums_more : {factor : ℕ} {new : List ℕ} → Increased factor counts sums new → factor ≡ f k → counts ≡ (array_at l k).counts → SumsTo f l n (k + 1) new
  sums_more i q c = sums_more_at i q (λ j h. ap (λ (m : List ℕ). get_or m j 0) c)
