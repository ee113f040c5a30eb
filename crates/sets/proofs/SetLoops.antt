-- Laws on the loops over sets: a union, a pick, the numbers that are not 0. Assumes nothing.
use mathlib.Core.Path.{◌≡◌, refl, ap, ◌∙◌, subst}
use mathlib.Core.List.{List}
use Prim.Native.Nat.{ℕ, zero, suc, ◌+◌, ◌≤◌, ◌<◌, min}
use native.Mathlib.Decide.{ℕ_discrete}
use native.Mathlib.Omega.{arith}
use borrow.Author.Count.{below_more}
use lib.ListN.{get_or, take, drop}
use lib.Seq.{get_or-take, get_or-drop}
use Rattle.sets.specs.Clauses.{on, has, Some, Without, Rest, With, Join, Via, Picked, UnionOf}
use Rattle.sets.proofs.Indicators.{ind_same, ind_other}
use Rattle.sets.proofs.Members.{on_le, on_zero}

-- what is left of x has not been added to r yet
pub record Part (sets : List ℕ) (x left r : ℕ) : Type 0 where
  pub small : left < 8192
  pub sub : (p : ℕ) → on left p ≤ on x p
  pub all : (p q : ℕ) → on x p + has sets p q ≤ 1 + on r q + on left p
  pub from : (q : ℕ) → on r q ≡ 1 → Via sets x q

pub part_none : {sets : List ℕ} {x left : ℕ} → left ≡ x → x < 8192 → Part sets x left 0
part_none {sets} {x} {left} e h = record {
  small = omega arith;
  sub = λ p. rw e (omega arith);
  all = λ p q. rw e (omega (arith, on_le (get_or sets p 0) q));
  from = λ q e. absurd (omega (arith, on_zero q));
}

pub part_step : {sets : List ℕ} {x left r p r' left' : ℕ} → Part sets x left r → Some left p → Join r (get_or sets p 0) r' → Rest left left' → Part sets x left' r'
part_step {sets} {x} {left} {r} {p} {r'} {left'} t s j l = record {
  small = omega (arith, t.small, w.less);
  sub = λ i. omega (arith, t.sub i, w.is i);
  all = λ i q. go i q (ℕ_discrete i p);
  from = λ q e. look q e (on r q) refl;
}
  where
    w : Without left p left'
    w = l.is p s

    go : (i q : ℕ) → Dec (i ≡ p) → on x i + has sets i q ≤ 1 + on r' q + on left' i
    go i q (yes e) = rw e (omega (arith, on_le x p, j.is q))
    go i q (no n) = omega (arith, t.all i q, w.is i, ind_other i p n, j.is q)

    look : (q : ℕ) → on r' q ≡ 1 → (n : ℕ) → on r q ≡ n → Via sets x q
    look q e zero z = record {
      p = p;
      picked = record { below = s.below; member = omega (arith, t.sub p, s.is, on_le x p); linked = omega (arith, j.is q) };
    }
    look q e (suc n) z = t.from q (omega (arith, on_le r q))

pub part_end : {sets : List ℕ} {x left r : ℕ} → Part sets x left r → left ≡ 0 → UnionOf sets x r
part_end {sets} {x} {left} {r} t e = record {
  all = λ p q. let z : on left p ≡ 0 = ap (λ (n : ℕ). on n p) e ∙ on_zero p in omega (arith, t.all p q);
  from = t.from;
}

-- a member that has q is left
pub record Left (sets : List ℕ) (x q left : ℕ) : Type 0 where
  pub small : left < 8192
  pub sub : (p : ℕ) → on left p ≤ on x p
  pub via : Via sets left q

pub left_found : {sets : List ℕ} {x q left p b : ℕ} → Left sets x q left → Some left p → b ≡ has sets p q → b ≡ 1 → Picked sets x q p
left_found {x = x} {p = p} t s e h = record { below = s.below; member = omega (arith, t.sub p, s.is, on_le x p); linked = omega arith }

pub left_step : {sets : List ℕ} {x q left p left' b : ℕ} → Left sets x q left → Some left p → b ≡ has sets p q → (b ≡ 1 → ⊥) → Rest left left' → Left sets x q left'
left_step {sets} {x} {q} {left} {p} {left'} t s i n l =
    let w = l.is p s in
    let v = t.via.picked in record {
      small = omega (arith, t.small, w.less);
      sub = λ i. omega (arith, t.sub i, w.is i);
      via = record {
        p = t.via.p;
        picked = record {
          below = v.below;
          member = omega (arith, v.member, w.is t.via.p, ind_other t.via.p p (λ e. n (i ∙ subst (λ (j : ℕ). has sets j q ≡ 1) e v.linked)));
          linked = v.linked;
        };
      };
    }

pub left_none : {sets : List ℕ} {x q left : ℕ} → Left sets x q left → left ≡ 0 → ⊥
left_none {left = left} t e = let z : on left t.via.p ≡ 0 = ap (λ (n : ℕ). on n t.via.p) e ∙ on_zero t.via.p in omega (arith, t.via.picked.member)

-- those of the first j numbers from place k on that are not 0
pub record Upto (numbers : List ℕ) (k j r : ℕ) : Type 0 where
  pub low : (q : ℕ) → q < j → on r q ≡ min (get_or numbers (k + q) 0) 1
  pub high : (q : ℕ) → j ≤ q → on r q ≡ 0

pub upto_none : {numbers : List ℕ} {k : ℕ} → Upto numbers k 0 0
upto_none = record { low = λ q h. absurd (omega arith); high = λ q h. on_zero q }

-- a number of the part that begins at place k
pub part_at : (numbers : List ℕ) (k n j : ℕ) → j < n → get_or (take n (drop k numbers)) j 0 ≡ get_or numbers (k + j) 0
part_at numbers k n j l = get_or-take n (drop k numbers) j 0 l ∙ get_or-drop k numbers j 0

pub upto_skip : {numbers : List ℕ} {k j r x : ℕ} → Upto numbers k j r → x ≡ get_or numbers (k + j) 0 → x ≤ 0 → Upto numbers k (j + 1) r
upto_skip {numbers} {k} {j} {r} u e z = record {
  low = below_more (λ (q : ℕ). on r q ≡ min (get_or numbers (k + q) 0) 1) j u.low (omega (arith, u.high j (omega arith)));
  high = λ q h. u.high q (omega arith);
}

pub upto_with : {numbers : List ℕ} {k j r r' x : ℕ} → Upto numbers k j r → x ≡ get_or numbers (k + j) 0 → 0 < x → With r j r' → Upto numbers k (j + 1) r'
upto_with {numbers} {k} {j} {r} {r'} u e z w = record {
  low = below_more (λ (q : ℕ). on r' q ≡ min (get_or numbers (k + q) 0) 1) j
      (λ q h. omega (arith, u.low q h, w.is q, ind_other q j (λ e. omega arith)))
      (omega (arith, u.high j (omega arith), w.is j, ind_same j));
  high = λ q h. omega (arith, u.high q (omega arith), w.is q, ind_other q j (λ e. omega arith));
}
