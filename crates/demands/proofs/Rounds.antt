-- What holds inside a round, of a completed one, and of all rounds together. Assumes nothing.
use mathlib.Core.Path.{◌≡◌, refl, sym, ap, ap₂, ◌∙◌, subst}
use mathlib.Core.Bool.{Bool, true, false, cond}
use mathlib.Core.Logic.{⊎_elim}
use mathlib.Core.List.Memᴰ
use mathlib.Core.List.Memᴰ.{head as here}
use mathlib.Core.List.Memᴰ.{tail as there}
use mathlib.Core.List.{List, [], ◌∷◌, ◌++◌, append_assoc, append-nil, Memᴰ as Member}
use Prim.Native.Nat.{ℕ, ◌+◌, ◌-◌, ◌*◌, ◌<◌, ◌≤◌}
use native.Mathlib.Nat.{mul_comm, le_refl, add-mul, add-sub_of_le}
use native.Mathlib.Omega.{arith}
use lib.ListN.{length}
use Rattle.base.specs.Lists.{sum_to}
use Rattle.base.proofs.Sums.{list_append, sum_ext, sum_le, sum_zero, sum_add, sum_mul, sum_same, sum_term}
use Rattle.base.proofs.Tests.{test_times, test_parts, test_le}
use Rattle.table.specs.Table.{total}
use Rattle.table.specs.Whole.{down, up}
use Rattle.weighted_arrays.specs.Plan.{Plan}
use Rattle.opening.specs.Open.{held_to}
use Rattle.opening.proofs.Sound.{Sound}
use Rattle.campaign_draw.specs.Draw.{Made}
use Rattle.records.proofs.Numbers.{array_entry, planned_sum_lem}
use Rattle.demands.specs.Runs.{used, over_accepted, accepted, drawn, unused, in_turn}
use Rattle.demands.specs.Claim.{RoundClaim, CompletedClaim}
use Rattle.demands.proofs.Spending.{Spent}

-- a number that counts only if a test fails
rest_le : (t : Bool) {x y : ℕ} → x ≤ y → cond t 0 x ≤ cond t 0 y
rest_le true h = le_refl 0
rest_le false h = h

test_one : (t : Bool) → cond t 1 0 ≤ 1
test_one true = le_refl 1
test_one false = omega arith

-- a test counted 0, and its failure counted 0
count_none : (t : Bool) → cond {A = ℕ} t 1 0 ≡ 0 → t ≡ false
count_none true e = absurd (omega arith)
count_none false e = refl

count_all : (t : Bool) → cond {A = ℕ} t 0 1 ≡ 0 → t ≡ true
count_all true e = refl
count_all false e = absurd (omega arith)

module _ {p : Plan} {round : List Made} (o : Sound p) (spent : Spent p round) where
  -- used and unused numbers together are all numbers
  pub balances : (places : List ℕ) → drawn p round places + unused p round places ≡ total p.cells places
  unfolding unused
  balances places =
      ap (λ (x : ℕ). x + unused p round places) (spent.over (λ a. total a places))
      ∙ sym (sum_add p.denominator _ _)
      ∙ sum_ext p.denominator _ _ (λ d l. test_parts (used round d) _)
      ∙ planned_sum_lem o places

  -- m times a number, added up over the draw numbers
  m_times : (c : ℕ) → accepted round * c ≡ sum_to p.denominator (λ d. cond (used round d) c 0)
  m_times c =
      ap (λ (x : ℕ). x * c) (spent.over (λ a. 1)) ∙ mul_comm _ c ∙ sym (sum_mul p.denominator c _)
      ∙ sum_ext p.denominator _ _ (λ d l. mul_comm c _ ∙ sym (test_times (used round d) c))

  few : accepted round ≤ p.denominator
  few = omega (arith, m_times 1, sum_le p.denominator (λ d. cond (used round d) 1 0) (λ d. 1) (λ d l. test_one (used round d)), sum_same p.denominator 1)

  -- D − m times a number, added up over them
  rest_times : (c : ℕ) → (p.denominator - accepted round) * c ≡ sum_to p.denominator (λ d. cond (used round d) 0 c)
  rest_times c =
      let rest = sum_to p.denominator (λ d. cond (used round d) 0 c) in
      let all : p.denominator * c ≡ accepted round * c + rest =
      sym (sum_same p.denominator c) ∙ sum_ext p.denominator _ _ (λ d l. sym (test_parts (used round d) c)) ∙ sum_add p.denominator _ _
      ∙ ap (λ (x : ℕ). x + rest) (sym (m_times c)) in
      let parts : p.denominator * c ≡ accepted round * c + (p.denominator - accepted round) * c =
      ap (λ (x : ℕ). x * c) (sym (add-sub_of_le few)) ∙ add-mul (accepted round) _ c in
      omega (arith, all, parts)

  module _ (places : List ℕ) (m : Member places (held_to p.rows p.columns)) where
    bounded : (accepted round * down p.denominator (total p.cells places) ≤ drawn p round places)
        × (drawn p round places ≤ accepted round * up p.denominator (total p.cells places))
    bounded =
        let e = total p.cells places in
        rw (m_times (down p.denominator e), m_times (up p.denominator e), spent.over (λ a. total a places)) (
          sum_le p.denominator _ _ (λ d l. test_le (used round d) (array_entry o l places m).0),
          sum_le p.denominator _ _ (λ d l. test_le (used round d) (array_entry o l places m).1),
        )

    reserved : ((p.denominator - accepted round) * down p.denominator (total p.cells places) ≤ unused p round places)
        × (unused p round places ≤ (p.denominator - accepted round) * up p.denominator (total p.cells places))
    unfolding unused
    reserved =
        let e = total p.cells places in
        rw (rest_times (down p.denominator e), rest_times (up p.denominator e)) (
          sum_le p.denominator _ _ (λ d l. rest_le (used round d) (array_entry o l places m).0),
          sum_le p.denominator _ _ (λ d l. rest_le (used round d) (array_entry o l places m).1),
        )

  pub inside : RoundClaim p round
  inside = record { balance = balances; bounds = bounded; at_most = few; reserve = reserved }

  -- a round in which D draws are accepted
  module _ (full : accepted round ≡ p.denominator) where
    every_used : (d : ℕ) → d < p.denominator → used round d ≡ true
    every_used d l =
        let none : (p.denominator - accepted round) * 1 ≡ 0 = rw full (omega arith) in
        let t = sum_term p.denominator (λ j. cond (used round j) 0 1) d l in
        count_all (used round d) (omega (arith, rest_times 1, none, t))

    pub planned : (places : List ℕ) → drawn p round places ≡ total p.cells places
    unfolding unused
    planned places =
        let none : unused p round places ≡ 0 = sum_ext p.denominator _ (λ d. 0) (λ d l. rw (every_used d l)) ∙ sum_zero p.denominator in
        omega (arith, balances places)

    pub completed : CompletedClaim p round
    completed = record { inside = inside; all_used = every_used; exact = planned }

  -- and one in which none is
  module _ (none : accepted round ≡ 0) where
    pub none_used : (d : ℕ) → d < p.denominator → used round d ≡ false
    none_used d l =
        let t = sum_term p.denominator (λ j. cond (used round j) 1 0) d l in
        count_none (used round d) (omega (arith, m_times 1, t))

    pub none_drawn : (places : List ℕ) → drawn p round places ≡ 0
    none_drawn places = spent.over (λ a. total a places) ∙ sum_ext p.denominator _ (λ d. 0) (λ d l. rw (none_used d l)) ∙ sum_zero p.denominator

-- a draw more in the last round, and that round completed
pub in_turn_more : (l : List (List Made)) (m : List Made) (t : Made) → in_turn l (m ++ (t ∷ [])) ≡ in_turn l m ++ (t ∷ [])
unfolding in_turn
in_turn_more [] m t = refl
in_turn_more (c ∷ l) m t = ap (λ (k : List Made). c ++ k) (in_turn_more l m t) ∙ sym (append_assoc c (in_turn l m) (t ∷ []))

pub in_turn_closed : (l : List (List Made)) (m : List Made) → in_turn (l ++ (m ∷ [])) [] ≡ in_turn l m
unfolding in_turn
in_turn_closed [] m = append-nil m
in_turn_closed (c ∷ l) m = ap (λ (k : List Made). c ++ k) (in_turn_closed l m)

-- all rounds together, where each completed one drew the planned sum
pub drawn_in_turn : (p : Plan) (places : List ℕ) (x : ℕ) (l : List (List Made)) (m : List Made) → ((c : List Made) → Member c l → drawn p c places ≡ x)
    → drawn p (in_turn l m) places ≡ length l * x + drawn p m places
unfolding in_turn over_accepted
drawn_in_turn p places x [] m each = omega arith
drawn_in_turn p places x (c ∷ l) m each =
    list_append _ c (in_turn l m)
    ∙ ap₂ ◌+◌ (each c (here refl)) (drawn_in_turn p places x l m (λ k q. each k (there q)))
    ∙ omega (arith, add-mul 1 (length l) x)

-- what holds of each of a list, and of one more
pub one_more_lem : {A : Type 0} (P : A → Type 0) (l : List A) (x : A) → ((c : A) → Member c l → P c) → P x → (c : A) → Member c (l ++ (x ∷ [])) → P c
one_more_lem P l x each h c m = ⊎_elim (each c) (λ k. subst P (sym (Memᴰ.eq_of_singleton k)) h) (Memᴰ.append_cases l m)
