-- What one more draw adds to the used numbers and to what was drawn. Assumes nothing.
use Rattle.std.specs.Prelude.{Result, Ok, Err, ⊤}
use mathlib.Core.Path.{◌≡◌, refl, sym, ap, ap₂, ◌∙◌}
use mathlib.Core.Bool.{Bool, false, cond, ◌&&◌, ◌||◌, or-false, or_assoc}
use mathlib.Core.List.{List, [], ◌∷◌, ◌++◌}
use Prim.Native.Nat.{ℕ, ◌+◌, ◌<◌}
use native.Mathlib.Nat.{add-zero}
use native.Mathlib.Omega.{arith}
use lib.ListN.{take}
use lib.Dec.{eqb}
use borrow.Author.Tests.{eq-eqb, ne_eqb}
use Rattle.base.specs.Lists.{sum, sum_to}
use Rattle.base.proofs.Sums.{list_append, sum_ext, sum_zero, sum_one_more}
use Rattle.refusals.specs.declared.Refusal.{Refusal}
use Rattle.weighted_arrays.specs.Plan.{Plan, cell_count, array_for}
use Rattle.campaign_draw.specs.Draw.{Made}
use Rattle.demands.specs.Runs.{is_done, used, over_accepted}

used-more : (h : List Made) (t : Made) (d : ℕ) → used (h ++ (t ∷ [])) d ≡ (used h d || is_done t.answer && eqb t.asked.number d)
unfolding used
used-more [] t d = or-false (is_done t.answer && eqb t.asked.number d)
used-more (u ∷ h) t d =
    let first : Bool = is_done u.answer && eqb u.asked.number d in
    ap (λ (x : Bool). first || x) (used-more h t d) ∙ sym (or_assoc first (used h d) _)

over_more : (f : Made → ℕ) (h : List Made) (t : Made) → over_accepted f (h ++ (t ∷ [])) ≡ over_accepted f h + cond (is_done t.answer) (f t) 0
unfolding over_accepted sum
over_more f h t = omega (arith, list_append (λ x. cond (is_done x.answer) (f x) 0) h (t ∷ []))

module _ (h : List Made) (t : Made) where
  module _ (a : t.answer ≡ Ok tt) where
    pub used_accepted : (d : ℕ) → used (h ++ (t ∷ [])) d ≡ (used h d || eqb t.asked.number d)
    used_accepted d = used-more h t d ∙ ap (λ (x : Result ⊤ Refusal). used h d || is_done x && eqb t.asked.number d) a

    pub over_accepted_lem : (f : Made → ℕ) → over_accepted f (h ++ (t ∷ [])) ≡ over_accepted f h + f t
    over_accepted_lem f = over_more f h t ∙ ap (λ (x : Result ⊤ Refusal). over_accepted f h + cond (is_done x) (f t) 0) a

  module _ {x : Refusal} (a : t.answer ≡ Err x) where
    pub used_refused : (d : ℕ) → used (h ++ (t ∷ [])) d ≡ used h d
    used_refused d = used-more h t d ∙ ap (λ (y : Result ⊤ Refusal). used h d || is_done y && eqb t.asked.number d) a ∙ or-false (used h d)

    pub over_refused : (f : Made → ℕ) → over_accepted f (h ++ (t ∷ [])) ≡ over_accepted f h
    over_refused f = over_more f h t ∙ ap (λ (y : Result ⊤ Refusal). over_accepted f h + cond (is_done y) (f t) 0) a ∙ add-zero (over_accepted f h)

-- Of the draws of a round: any number that arrays have comes to the same, added up over the arrays that accepted draws wrote out and over the arrays of the
-- used numbers, since each of these was accepted once.
pub record Spent (p : Plan) (round : List Made) : Type 0 where
  pub over : (f : List ℕ → ℕ)
      → over_accepted (λ t. f (take (cell_count p) t.result)) round ≡ sum_to p.denominator (λ d. cond (used round d) (f (array_for p.arrays d)) 0)

pub spent_none : (p : Plan) → Spent p []
unfolding over_accepted sum used
spent_none p = record { over = λ f. sym (sum_zero p.denominator) }

module _ {p : Plan} {h : List Made} (spent : Spent p h) (t : Made) where
  pub spent_refused : {x : Refusal} → t.answer ≡ Err x → Spent p (h ++ (t ∷ []))
  spent_refused a = record { over = λ f. over_refused h t a _ ∙ spent.over f ∙ sum_ext p.denominator _ _ (λ d l. rw (used_refused h t a d)) }

  -- an accepted draw of a number that the round has not used
  pub spent_accepted : t.answer ≡ Ok tt → t.asked.number < p.denominator → used h t.asked.number ≡ false
      → take (cell_count p) t.result ≡ array_for p.arrays t.asked.number → Spent p (h ++ (t ∷ []))
  spent_accepted a below new wrote = record {
    over = λ f.
        over_accepted_lem h t a _ ∙ ap₂ ◌+◌ (spent.over f) (ap f wrote)
        ∙ sym (sum_one_more p.denominator _ _ t.asked.number _ below
        (rw (used_accepted h t a t.asked.number, new, eq-eqb t.asked.number t.asked.number refl) (omega arith))
        (λ j l o. rw (used_accepted h t a j, ne_eqb t.asked.number j (λ q. o (sym q)), or-false)));
  }
