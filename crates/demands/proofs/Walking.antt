-- The walk of every accepted table of up to four by four ends, and holds each controlled rounding once, in rising order, and none besides. Assumes nothing.
use Rattle.std.specs.Prelude.{Option, Some, None, Result, Ok}
use mathlib.Core.Path.{◌≡◌, refl, sym, ap₂, ◌∙◌}
use mathlib.Core.Logic.{⊎_elim}
use mathlib.Core.Bool.{true}
use mathlib.Core.List.Memᴰ.{cases_cons as member-cases}
use mathlib.Core.List.Memᴰ.{head as here}
use mathlib.Core.List.Memᴰ.{not-nil as member-none}
use mathlib.Core.List.Memᴰ.{tail as there}
use mathlib.Core.List.{List, [], ◌∷◌, Memᴰ as Member}
use Prim.Native.Nat.{ℕ, zero, suc, ◌+◌, ◌-◌, ◌*◌, ◌^◌, ◌<◌, ◌≤◌}
use native.Mathlib.Decide.{dec_lt}
use native.Mathlib.Omega.{arith}
use lib.ListN.{length, get_or, replicate, length-replicate}
use lib.Pow.{pow_pos}
use Rattle.base.specs.Lists.{tabulate}
use Rattle.base.proofs.Lists.{get_d_tabulate}
use Rattle.base.proofs.Buffers.{written_front}
use Rattle.refusals.specs.declared.Refusal.{Refusal}
use Rattle.refusals.specs.Due.{answer_of, after}
use Rattle.table.specs.Whole.{down}
use Rattle.table.specs.Check.{table_refusal}
use Rattle.table.specs.Clauses.{Shape}
use Rattle.table.proofs.Checks.{passed_all}
use Rattle.is_rounding.specs.Rounding.{two_ways, is_rounding}
use Rattle.first_rounding.specs.Order.{in_order, Before}
use Rattle.first_rounding.specs.First.{first_rounding}
use Rattle.first_rounding.proofs.Existence.{accepted_exists}
use Rattle.first_rounding.proofs.Roundings.{rounding_length}
use Rattle.next_rounding.specs.Next.{IsNext, IsLast, Follows, next_rounding}
use Rattle.next_rounding.specs.Clauses.{number_in}
use Rattle.next_rounding.proofs.Comparing.{not_before_itself, smaller_trans}
use Rattle.next_rounding.proofs.Following.{one_first, next_follows}
use Rattle.next_rounding.proofs.Numbers.{number_below, before_less}
use Rattle.walk.specs.declared.Step.{Step}
use Rattle.walk.specs.declared.Step.TheVariants.{Next, Last}
use Rattle.walk.specs.Call.{next_answer, next_left}
use Rattle.walk.proofs.Calls.{nothing_first, nothing_next}
use Rattle.demands.specs.Walks.{Begins, GoesOn, Ends, Onward, Walk, Walked}

-- an element by its place
member_at : (l : List (List ℕ)) (i : ℕ) → i < length l → Member (get_or l i []) l
member_at [] i h = absurd (omega arith)
member_at (x ∷ l) zero h = here refl
member_at (x ∷ l) (suc i) h = there (member_at l i (omega arith))

-- a list in which every array comes before those after it
module _ (r c : ℕ) where
  abbrev Rising : List (List ℕ) → Type 0
  Rising l = (i j : ℕ) → i < j → j < length l → Before r c (get_or l i []) (get_or l j [])

  rising_none : Rising []
  rising_none i j h l = absurd (omega arith)

  rising_more : (n : List ℕ) (l : List (List ℕ)) → ((m : List ℕ) → Member m l → Before r c n m) → Rising l → Rising (n ∷ l)
  rising_more n l first rest zero zero h i = absurd (omega arith)
  rising_more n l first rest zero (suc j) h i = first (get_or l j []) (member_at l j (omega arith))
  rising_more n l first rest (suc i) zero h k = absurd (omega arith)
  rising_more n l first rest (suc i) (suc j) h k = rest i j (omega arith) (omega arith)

  rising_once : (l : List (List ℕ)) → Rising l → (i j : ℕ) → i < length l → j < length l → get_or l i [] ≡ get_or l j [] → i ≡ j
  rising_once l up i j hi hj e = go (dec_lt i j) (dec_lt j i)
    where
      go : Dec (i < j) → Dec (j < i) → i ≡ j
      go (yes a) b = absurd (not_before_itself (in_order 0 r c (get_or l j [])) (rw e at (up i j a hj)))
      go (no a) (yes b) = absurd (not_before_itself (in_order 0 r c (get_or l j [])) (rw e at (up j i b hi)))
      go (no a) (no b) = omega arith

module _ (r c d : ℕ) (g : List ℕ) (h : table_refusal r c d g ≡ None) (hr : r ≤ 4) (hc : c ≤ 4) where
  s : Shape r c g
  s = (passed_all r c d g h).shape

  abbrev Rounds : List ℕ → Type 0
  Rounds n = is_rounding (two_ways r c) d g n ≡ true

  -- what the calls do
  begins : Begins r c d g (first_rounding r c d g)
  unfolding answer_of after
  begins buffer room =
      let nothing = nothing_first r c d g h hr hc (length buffer) room in (
        rw nothing refl,
        rw nothing (written_front (first_rounding r c d g) buffer (rounding_length s d (first_rounding r c d g) (accepted_exists r c d g h).rounding)),
      )

  module _ (n : List ℕ) (i : Rounds n) where
    goes_on_is : (k : List ℕ) → Rounds k → next_rounding r c d g n ≡ Some k → GoesOn r c d g n k
    unfolding next_answer next_left after
    goes_on_is k j e buffer room =
        let nothing = nothing_next r c d g h hr hc n i (length buffer) room in
        (rw (nothing, e) refl, rw (nothing, e) (written_front k buffer (rounding_length s d k j)))

    ends : next_rounding r c d g n ≡ None → Ends r c d g n
    unfolding next_answer next_left after
    ends e buffer room = let nothing = nothing_next r c d g h hr hc n i (length buffer) room in (rw (nothing, e) refl, rw (nothing, e) refl)

  -- the number of a controlled rounding, which rises along the walk
  low : List ℕ
  low = tabulate (r * c) (λ p. down d (get_or g p 0))

  low_is : (p : ℕ) → p < r * c → get_or low p 0 ≡ down d (get_or g p 0)
  unfolding low
  low_is p l = get_d_tabulate (r * c) _ p 0 l

  number : List ℕ → ℕ
  number n = number_in r c low n

  below : (n : List ℕ) → Rounds n → number n < 2 ^ (r * c)
  unfolding number
  below n i = number_below s d low low_is n i

  rises : (n k : List ℕ) → Rounds n → Rounds k → Before r c n k → number n < number k
  unfolding number
  rises n k i j b = before_less s d low low_is n k i j b

  -- the walk from an array on
  record From (n : List ℕ) (fuel : ℕ) : Type 0 where
    list : List (List ℕ)
    onward : Onward r c d g n list
    few : length list ≤ fuel
    each : (m : List ℕ) → Rounds m → Before r c n m → Member m list
    rounds : (m : List ℕ) → Member m list → Rounds m
    later : (m : List ℕ) → Member m list → Before r c n m
    up : Rising r c list

  at_last : (n : List ℕ) → Rounds n → (fuel : ℕ) → next_rounding r c d g n ≡ None → IsLast r c d g n → From n fuel
  at_last n i fuel e last = record {
    list = [];
    onward = ends n i e;
    few = omega arith;
    each = λ m j b. absurd (last.none_after m j b);
    rounds = λ m p. absurd (member-none p);
    later = λ m p. absurd (member-none p);
    up = rising_none r c;
  }

  at_next : (n : List ℕ) → Rounds n → (fuel : ℕ) (k : List ℕ) → next_rounding r c d g n ≡ Some k → IsNext r c d g n k → From k fuel → From n (suc fuel)
  at_next n i fuel k e next rest = record {
    list = k ∷ rest.list;
    onward = (goes_on_is n i k next.rounding e, rest.onward);
    few = omega (arith, rest.few);
    each = λ m j b. ⊎_elim (λ q. here (sym q))
        (⊎_elim (λ q. there (rest.each m j q)) (λ q. absurd (next.none_between m j b q)))
        (one_first s d k m next.rounding j);
    rounds = λ m p. ⊎_elim (λ q. rw q next.rounding) (rest.rounds m) (member-cases p);
    later = λ m p. ⊎_elim (λ q. rw q next.after) (λ q. smaller_trans (in_order 0 r c n) (in_order 0 r c k) (in_order 0 r c m) next.after (rest.later m q)) (member-cases p);
    up = rising_more r c k rest.list rest.later rest.up;
  }

  -- as many steps as there are numbers above the array's own are enough
  from : (fuel : ℕ) (n : List ℕ) → Rounds n → 2 ^ (r * c) ≤ number n + suc fuel → From n fuel
  from zero n i l = go (next_rounding r c d g n) refl (next_follows s d n)
    where
      go : (o : Option (List ℕ)) → next_rounding r c d g n ≡ o → Follows r c d g n o → From n zero
      go None e f = at_last n i zero e f
      go (Some k) e f = absurd (let a = rises n k i f.rounding f.after in let b = below k f.rounding in omega arith)
  from (suc fuel) n i l = go (next_rounding r c d g n) refl (next_follows s d n) (λ k j b. from fuel k j (let a = rises n k i j b in omega arith))
    where
      go : (o : Option (List ℕ)) → next_rounding r c d g n ≡ o → Follows r c d g n o
          → ((k : List ℕ) → Rounds k → Before r c n k → From k fuel) → From n (suc fuel)
      go None e f next = at_last n i (suc fuel) e f
      go (Some k) e f next = at_next n i fuel k e f (next k f.rounding f.after)

  -- two walks from one array on are the same
  buffer : List ℕ
  buffer = replicate (r * c) 0

  room : r * c ≤ length buffer
  unfolding buffer
  room = omega (arith, length-replicate {A = ℕ} (r * c) 0)

  different : {a : Result Step Refusal} → a ≡ Ok Next → a ≡ Ok Last → ⊥
  different p q = cc

  same_onward : (n : List ℕ) (l m : List (List ℕ)) → Onward r c d g n l → Onward r c d g n m → l ≡ m
  same_onward n [] [] p q = refl
  same_onward n [] (k ∷ m) p q = absurd (different (q.0 buffer room).0 (p buffer room).0)
  same_onward n (k ∷ l) [] p q = absurd (different (p.0 buffer room).0 (q buffer room).0)
  same_onward n (k ∷ l) (k' ∷ m) p q =
      let e : k ≡ k' = sym (p.0 buffer room).1 ∙ (q.0 buffer room).1 in
      ap₂ (λ (x : List ℕ) (y : List (List ℕ)). x ∷ y) e (same_onward k l m p.1 (rw (sym e) at q.1))

  same_walk : (l m : List (List ℕ)) → Walk r c d g l → Walk r c d g m → l ≡ m
  same_walk [] m p q = absurd p
  same_walk (n ∷ l) [] p q = absurd q
  same_walk (n ∷ l) (n' ∷ m) p q =
      let e : n ≡ n' = sym (p.0 buffer room).1 ∙ (q.0 buffer room).1 in
      ap₂ (λ (x : List ℕ) (y : List (List ℕ)). x ∷ y) e (same_onward n l m p.1 (rw (sym e) at q.1))

  pub walked : Walked r c d g
  walked =
      let first = accepted_exists r c d g h in
      let n = first_rounding r c d g in
      let rest = from (2 ^ (r * c) - 1) n first.rounding (omega (arith, pow_pos (r * c))) in
      let up = rising_more r c n rest.list rest.later rest.up in
      let walk : Walk r c d g (n ∷ rest.list) = (begins, rest.onward) in
      record {
        list = n ∷ rest.list;
        walk = walk;
        only = λ l w. same_walk l (n ∷ rest.list) w walk;
        few = omega (arith, rest.few, pow_pos (r * c));
        each = λ m j. ⊎_elim (λ q. here (sym q)) (⊎_elim (λ q. there (rest.each m j q)) (λ q. absurd (first.first m j q))) (one_first s d n m first.rounding j);
        none_besides = λ m p. ⊎_elim (λ q. rw q first.rounding) (rest.rounds m) (member-cases p);
        rising = up;
        once = rising_once r c (n ∷ rest.list) up;
      }
