-- The plan of a table with all cells 0, of every size and denominator. Assumes nothing.
use mathlib.Core.Path.{◌≡◌, refl, ap, ◌∙◌}
use mathlib.Core.List.{List, [], ◌∷◌}
use Prim.Native.Nat.{ℕ, zero, suc, ◌+◌, ◌-◌, ◌*◌, ◌≤◌}
use native.Mathlib.Nat.{div-le_self, zero-div}
use native.Mathlib.Omega.{arith}
use lib.ListN.{get_or, replicate, length-replicate}
use borrow.Author.Tests.{eq-eqb}
use Rattle.table.specs.Table.{total, entry_places}
use Rattle.table.specs.Whole.{rounds_to}
use Rattle.table.specs.Clauses.{Shape}
use Rattle.base.proofs.Lists.{and_both, all_of_members}
use Rattle.table.proofs.Roundings.{rounds}
use Rattle.is_rounding.specs.Rounding.{is_rounding}
use Rattle.first_rounding.specs.First.{IsFirst, first_rounding}
use Rattle.first_rounding.proofs.Orders.{before_at}
use Rattle.first_rounding.proofs.Roundings.{first_is}
use Rattle.planning.specs.Rounds.{limit_of, weight_of, without, Round, rounds_from, arrays_in, plan_of}
use Rattle.planning.proofs.OneRound.{attains}
use Rattle.plan.proofs.Planning.{total_of_zeros}
use Rattle.planning.proofs.Progressing.{no_more}

zero_at : (n i : ℕ) → ◌≡◌ {A = ℕ} (get_or (replicate n 0) i 0) 0
zero_at zero i = refl
zero_at (suc n) zero = refl
zero_at (suc n) (suc i) = zero_at n i

-- a round that takes all the weight is the last
one_round : (r c fuel w : ℕ) → 1 ≤ w → (g n : List ℕ) → first_rounding r c w g ≡ n → weight_of r c w g (first_rounding r c w g) ≡ w
    → 1 ≤ fuel → rounds_from fuel r c w g ≡ record { left = w; table = g; array = record { weight = w; counts = n } } ∷ []
unfolding rounds_from
one_round r c zero w a g n e f l = absurd (omega arith)
one_round r c (suc m) zero a g n e f l = absurd (omega arith)
one_round r c (suc m) (suc v) a g n e f l =
    let x : ℕ = weight_of r c (suc v) g (first_rounding r c (suc v) g) in
    let gone : suc v - x ≡ 0 = omega arith in
    let rest : rounds_from m r c (suc v - x) (without x (first_rounding r c (suc v) g) g) ≡ [] =
    ap (λ (y : ℕ). rounds_from m r c y (without x (first_rounding r c (suc v) g) g)) gone ∙ no_more m r c _ in
    let make : ℕ → List ℕ → List Round → List Round = λ y k t. record { left = suc v; table = g; array = record { weight = y; counts = k } } ∷ t in
    ap (λ (y : ℕ). make y (first_rounding r c (suc v) g) (rounds_from m r c (suc v - x) (without x (first_rounding r c (suc v) g) g))) f
    ∙ ap (λ (k : List ℕ). make (suc v) k (rounds_from m r c (suc v - x) (without x (first_rounding r c (suc v) g) g))) e
    ∙ ap (make (suc v) n) rest

module _ (r c d : ℕ) (hr : 1 ≤ r) (kr : r ≤ 12) (hc : 1 ≤ c) (kc : c ≤ 12) (hd : 1 ≤ d) where
  zeros : List ℕ
  zeros = replicate (r * c) 0

  shape : Shape r c zeros
  unfolding zeros
  shape = record { some_rows = hr; rows = kr; some_columns = hc; columns = kc; cells = length-replicate {A = ℕ} (r * c) 0 }

  nothing : (s : List ℕ) → total zeros s ≡ 0
  unfolding zeros
  nothing = total_of_zeros (replicate (r * c) 0) (zero_at (r * c))

  first : IsFirst r c d zeros zeros
  unfolding is_rounding zeros
  first = record {
    rounding = and_both (eq-eqb _ _ (length-replicate {A = ℕ} (r * c) 0))
        (all_of_members (λ s. rounds_to d (total zeros s) (total zeros s)) (entry_places r c)
        (λ s m. rw (nothing s) (rounds d 0 0 (div-le_self 0 d) (omega arith))));
    first = λ k h b. let d = before_at shape k zeros b in omega (arith, d.less, zero_at (r * c) (d.row * c + d.column));
  }

  array_is : first_rounding r c d zeros ≡ zeros
  array_is = first_is shape d zeros first

  limit_is_lem : (s : List ℕ) → limit_of d (total zeros s) (total zeros s) ≡ d
  unfolding limit_of
  limit_is_lem s = rw (nothing s) (rw (zero-div d) (omega arith))

  weight_is : weight_of r c d zeros zeros ≡ d
  weight_is = let t = attains shape d hd zeros first.rounding in t.is ∙ limit_is_lem t.at

  plan_is : rounds_from d r c d zeros ≡ record { left = d; table = zeros; array = record { weight = d; counts = zeros } } ∷ []
  plan_is = one_round r c d d hd zeros zeros array_is (ap (weight_of r c d zeros) array_is ∙ weight_is) hd

  pub zero_plan : (plan_of r c d (replicate (r * c) 0)).arrays ≡ record { weight = d; counts = replicate (r * c) 0 } ∷ []
  unfolding plan_of zeros
  zero_plan = ap arrays_in plan_is
