-- How planning proceeds: its start, one more round, its end. Assumes nothing.
use mathlib.Core.Path.{◌≡◌, refl, sym, ap, subst, ◌∙◌}
use mathlib.Core.Bool.{Bool, true}
use mathlib.Core.List.{List, [], ◌∷◌, ◌++◌, map, append-nil, append_assoc, map-append}
use Prim.Native.Nat.{ℕ, zero, suc, ◌+◌, ◌-◌, ◌*◌, ◌/◌, ◌≤◌, ◌<◌}
use native.Mathlib.Nat.{div-add-mod', add-mul, mul_comm, le_refl}
use native.Mathlib.Decide.{dec_lt}
use native.Mathlib.Numerals.{add-one}
use native.Mathlib.Omega.{arith}
use lib.ListN.{length, get_or, length-append, length-map}
use lib.Seq.{get_or-append_seam}
use lib.Dec.{eqb}
use borrow.Author.Tests.{le-leb, eq-eqb}
use Rattle.base.proofs.Sums.{list_append}
use Rattle.base.specs.Lists.{sum, all}
use Rattle.table.specs.Table.{total, entry_places}
use Rattle.table.specs.Whole.{down, up, gap, rounds_to}
use Rattle.table.specs.Clauses.{IsTable}
use Rattle.base.proofs.Lists.{all_append, and_both, all_of_members}
use Rattle.table.proofs.Roundings.{rest_le, rounds}
use Rattle.is_rounding.specs.Rounding.{two_ways, is_rounding}
use Rattle.first_rounding.specs.First.{IsFirst, first_rounding}
use Rattle.first_rounding.proofs.Roundings.{rounding_length}
use Rattle.first_rounding.proofs.Existence.{first_exists}
use Rattle.weighted_arrays.specs.Plan.{Weighted}
use Rattle.planning.specs.Rounds.{weight_of, without, Round, round_on, rounds_from, plan_rounds, arrays_in, IsRound, AreRounds}
use Rattle.planning.specs.Clauses.{Progress}
use Rattle.planning.proofs.OneRound.{weight_low, weight_high, rest, rest_shape, rest_total, rest_low, rest_high, array_low, array_high, fewer}

-- an entry lies between its roundings
down_le : (d e : ℕ) → 0 < d → down d e * d ≤ e
down_le d e p = omega (arith, div-add-mod' e d)

up_ge : (d e : ℕ) → 0 < d → e ≤ up d e * d
up_ge d e p = omega (arith, div-add-mod' e d, rest_le d e p, add-mul (e / d) (gap d e) d, mul_comm d (gap d e))

pub progress_start : {r c d : ℕ} {g : List ℕ} → IsTable r c d g → Progress r c d g d 0 g []
unfolding sum all
progress_start {r} {c} {d} {g} t = record {
  shape = t.shape;
  count = refl;
  past = [];
  arrays = refl;
  fuel = d;
  enough = omega arith;
  rounds = refl;
  are_rounds = λ l h. h;
  weights = omega arith;
  positive = refl;
  rounded = refl;
  sums = λ s. omega arith;
  low = λ s m. down_le d (total g s) t.some_denominator;
  high = λ s m. up_ge d (total g s) t.some_denominator;
  few = λ h. omega arith;
  most = omega arith;
}

-- one more array at the end of a list
module _ (a : Weighted) (l : List Weighted) where
  sum_one_more : (f : Weighted → ℕ) → sum (map f (l ++ (a ∷ []))) ≡ sum (map f l) + f a
  unfolding sum
  sum_one_more f = list_append f l (a ∷ []) ∙ omega arith

  all_one_more : (f : Weighted → Bool) → all f l ≡ true → f a ≡ true → all f (l ++ (a ∷ [])) ≡ true
  unfolding all
  all_one_more f h k = all_append f l (a ∷ []) ∙ and_both h (and_both k refl)

module _ {r c d : ℕ} {g : List ℕ} {w k : ℕ} {left : List ℕ} {done : List Weighted} (p : Progress r c d g w k left done)
    (wp : 0 < w) where
  f : IsFirst r c w left (first_rounding r c w left)
  f = first_exists p.shape wp

  unfoldable pub next_array : List ℕ
  next_array = first_rounding r c w left

  unfoldable pub next_weight : ℕ
  next_weight = weight_of r c w left (first_rounding r c w left)

  unfoldable pub next_weighted : Weighted
  next_weighted = record { weight = next_weight; counts = next_array }

  pub low_weight : 0 < next_weight
  unfolding next_weight next_array
  low_weight = weight_low p.shape w wp next_array f.rounding

  pub high_weight : next_weight ≤ w
  unfolding next_weight next_array
  high_weight = weight_high p.shape w wp next_array f.rounding

  unfolded : (fuel w : ℕ) → 0 < w → w ≤ fuel → (left : List ℕ) → (m : ℕ) × (fuel ≡ suc m) × (rounds_from fuel r c w left ≡ round_on r c w left
      ∷ rounds_from m r c (w - weight_of r c w left (first_rounding r c w left)) (without (weight_of r c w left (first_rounding r c w left)) (first_rounding r c w left) left))
  unfolding rounds_from
  unfolded zero w a b l = absurd (omega arith)
  unfolded (suc m) zero a b l = absurd (omega arith)
  unfolded (suc m) (suc v) a b l = (m, refl, refl)

  pub array_rounds : is_rounding (two_ways r c) d g next_array ≡ true
  unfolding is_rounding next_array
  array_rounds = and_both eq_length (all_of_members (λ s. rounds_to d (total g s) (total next_array s)) (entry_places r c)
      (λ s m. rounds d (total g s) (total next_array s)
      (array_low p.shape w wp next_array f.rounding m (down d (total g s)) (up d (total g s)) (p.low s m) (p.high s m))
      (array_high p.shape w wp next_array f.rounding m (down d (total g s)) (up d (total g s)) (p.low s m) (p.high s m))))
    where
      eq_length : eqb (length next_array) (r * c) ≡ true
      eq_length = eq-eqb _ _ (rounding_length p.shape w next_array f.rounding)

  -- one round more, before any that give out the rest
  is_round : IsRound r c w left next_weighted
  unfolding next_weighted next_weight next_array
  is_round = record { remaining = wp; first = f; weight = refl }

  one_more_round : (l : List Weighted) → AreRounds r c (w - next_weight) (without next_weight next_array left) l → AreRounds r c d g ((done ++ (next_weighted ∷ [])) ++ l)
  unfolding AreRounds next_weighted
  one_more_round l h = subst (AreRounds r c d g) (sym (append_assoc done (next_weighted ∷ []) l)) (p.are_rounds (next_weighted ∷ l) (is_round, h))

  pub progress_step : Progress r c d g (w - next_weight) (k + 1) (without next_weight (first_rounding r c w left) left) (done ++ (next_weighted ∷ []))
  unfolding next_weight next_weighted next_array rest
  progress_step =
      let u = unfolded p.fuel w wp p.enough left in
      record {
        shape = rest_shape p.shape w wp next_array f.rounding;
        count = length-append done (next_weighted ∷ []) ∙ omega (arith, p.count);
        past = p.past ++ (round_on r c w left ∷ []);
        arrays = map-append (λ x. x.array) p.past (round_on r c w left ∷ []) ∙ ap (λ (l : List Weighted). l ++ (next_weighted ∷ [])) p.arrays;
        fuel = u.0;
        enough = omega (arith, p.enough, u.1, low_weight);
        rounds = p.rounds ∙ ap (λ (l : List Round). p.past ++ l) u.2 ∙ sym (append_assoc p.past (round_on r c w left ∷ []) _);
        are_rounds = one_more_round;
        weights = omega (arith, p.weights, sum_one_more next_weighted done (λ a. a.weight), high_weight);
        positive = all_one_more next_weighted done _ p.positive (le-leb 1 next_weight low_weight);
        rounded = all_one_more next_weighted done _ p.rounded array_rounds;
        sums = λ s. omega (arith, p.sums s, sum_one_more next_weighted done (λ a. a.weight * total a.counts s), rest_total p.shape w wp next_array f.rounding s);
        low = λ s m. rest_low p.shape w wp next_array f.rounding m (down d (total g s)) (up d (total g s)) (p.low s m) (p.high s m);
        high = λ s m. rest_high p.shape w wp next_array f.rounding m (down d (total g s)) (up d (total g s)) (p.low s m) (p.high s m);
        few = λ h. omega (arith, p.few wp, fewer p.shape w wp next_array f.rounding h);
        most = omega (arith, p.few wp);
      }

  -- the round that begins here is among the plan's, after those so far
  pub next_round : (m : List Round) × (plan_rounds r c d g ≡ p.past ++ (round_on r c w left ∷ m))
  next_round = let u = unfolded p.fuel w wp p.enough left in (_, p.rounds ∙ ap (λ (l : List Round). p.past ++ l) u.2)

  past_length : length p.past ≡ k
  past_length = sym (length-map p.past (λ x. x.array)) ∙ ap length p.arrays ∙ p.count

  pub round_is : (z : Round) → get_or (plan_rounds r c d g) k z ≡ round_on r c w left
  round_is z =
      ap (λ (l : List Round). get_or l k z) next_round.1
      ∙ ap (λ (i : ℕ). get_or (p.past ++ (round_on r c w left ∷ next_round.0)) i z) (sym past_length)
      ∙ get_or-append_seam p.past (round_on r c w left) next_round.0 z

  pub more_rounds : k < length (plan_rounds r c d g)
  more_rounds = omega (arith, ap length next_round.1, length-append p.past (round_on r c w left ∷ next_round.0), past_length)

-- at the end the arrays are those of the plan
pub no_more : (fuel r c : ℕ) (left : List ℕ) → rounds_from fuel r c 0 left ≡ []
unfolding rounds_from
no_more zero r c left = refl
no_more (suc m) r c left = refl

pub progress_end : {r c d : ℕ} {g : List ℕ} {k : ℕ} {left : List ℕ} {done : List Weighted} → Progress r c d g 0 k left done → arrays_in (plan_rounds r c d g) ≡ done
progress_end {r} {c} {d} {g} {k} {left} {done} p =
    ap arrays_in (p.rounds ∙ ap (λ (l : List Round). p.past ++ l) (no_more p.fuel r c left) ∙ append-nil p.past) ∙ p.arrays

pub all_rounds : {r c d : ℕ} {g : List ℕ} {w k : ℕ} {left : List ℕ} {done : List Weighted} → w ≡ 0 → Progress r c d g w k left done → length (plan_rounds r c d g) ≡ k
all_rounds {r} {c} {d} {g} {w} {k} {left} {done} e p =
    sym (length-map (plan_rounds r c d g) (λ x. x.array))
    ∙ ap length (progress_end (subst (λ (x : ℕ). Progress r c d g x k left done) e p))
    ∙ p.count

-- and each is that of a round
pub end_rounds : {r c d : ℕ} {g : List ℕ} {k : ℕ} {left : List ℕ} {done : List Weighted} → Progress r c d g 0 k left done → AreRounds r c d g (arrays_in (plan_rounds r c d g))
unfolding AreRounds
end_rounds {r} {c} {d} {g} {k} {left} {done} p = subst (AreRounds r c d g) (append-nil done ∙ sym (progress_end p)) (p.are_rounds [] refl)

-- the rounds until no weight is left
pub record End (r c d : ℕ) (g : List ℕ) : Type 0 where
  pub arrays : ℕ
  pub left : List ℕ
  pub done : List Weighted
  pub progress : Progress r c d g 0 arrays left done

at_end : {r c d : ℕ} {g : List ℕ} {w k : ℕ} {left : List ℕ} {done : List Weighted} → w ≡ 0 → Progress r c d g w k left done → End r c d g
at_end {r} {c} {d} {g} {k = k} {left} {done} e p =
    record { arrays = k; left = left; done = done; progress = subst (λ (x : ℕ). Progress r c d g x k left done) e p }

to_end : (fuel : ℕ) {r c d : ℕ} {g : List ℕ} {w k : ℕ} {left : List ℕ} {done : List Weighted} → w ≤ fuel → Progress r c d g w k left done → End r c d g
to_end zero h p = at_end (omega arith) p
to_end (suc fuel) {r} {c} {d} {g} {w} h p = go (dec_lt 0 w) (λ q. to_end fuel (omega (arith, low_weight p q)) (progress_step p q))
  where
    go : Dec (0 < w) → (0 < w → End r c d g) → End r c d g
    go (yes q) next = next q
    go (no n) next = at_end (omega arith) p

pub ended : {r c d : ℕ} {g : List ℕ} → IsTable r c d g → End r c d g
ended {d = d} t = to_end d (le_refl d) (progress_start t)

-- every round of the plan begins with some weight and a table that are left
pub record Begins (r c d : ℕ) (g : List ℕ) (k : ℕ) : Type 0 where
  pub weight : ℕ
  pub left : List ℕ
  pub done : List Weighted
  pub progress : Progress r c d g weight k left done
  pub some : 0 < weight

pub begins : {r c d : ℕ} {g : List ℕ} → IsTable r c d g → (k : ℕ) → k < length (plan_rounds r c d g) → Begins r c d g k
begins {d = d} {g} t zero h = record { weight = d; left = g; done = []; progress = progress_start t; some = t.some_denominator }
begins {r} {c} {d} {g} t (suc k) h = go (begins t k (omega arith))
  where
    go : Begins r c d g k → Begins r c d g (suc k)
    go b = next (dec_lt 0 (b.weight - next_weight b.progress b.some)) (progress_step b.progress b.some)
      where
        next : {w : ℕ} {left : List ℕ} {done : List Weighted} → Dec (0 < w) → Progress r c d g w (k + 1) left done → Begins r c d g (suc k)
        next {w} {left} {done} (yes q) p = record { weight = w; left = left; done = done; progress = subst (λ (i : ℕ). Progress r c d g w i left done) (add-one k) p; some = q }
        next (no n) p = absurd (omega (arith, all_rounds (omega arith) p))
