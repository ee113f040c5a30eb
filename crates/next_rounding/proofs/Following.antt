-- What the search of the definition finds follows, and nothing else does. Assumes nothing.
use Rattle.std.specs.Prelude.{Option, Some, None}
use mathlib.Core.Path.{◌≡◌, refl, sym, ap, ◌∙◌}
use mathlib.Core.Logic.{◌⊎◌, inl, inr, ⊎_elim}
use mathlib.Core.Bool.{Bool, true, ◌&&◌}
use mathlib.Core.List.{List, map}
use Prim.Native.Nat.{ℕ}
use Rattle.base.proofs.Lists.{and_left, and_right, and_both}
use Rattle.table.specs.Clauses.{Shape}
use Rattle.is_rounding.specs.Rounding.{two_ways, is_rounding}
use Rattle.first_rounding.specs.Order.{Choice, in_order, array_of, Before, first_of}
use Rattle.first_rounding.specs.First.{choice}
use Rattle.first_rounding.proofs.Firsts.{Answer, answer, one_before}
use Rattle.first_rounding.proofs.Orders.{array_of_order, order_of_array}
use Rattle.first_rounding.proofs.Roundings.{rounding_length, ordered, made_of, made_length}
use Rattle.next_rounding.specs.Next.{Follows, is_smaller, array_in, next_rounding}
use Rattle.next_rounding.proofs.Comparing.{is_smaller_lem, so_smaller}

module _ {r c : ℕ} {g : List ℕ} (s : Shape r c g) (w : ℕ) where
  abbrev Rounds : List ℕ → Type 0
  Rounds n = is_rounding (two_ways r c) w g n ≡ true

  back : (n : List ℕ) → Rounds n → array_of 0 r c (in_order 0 r c n) ≡ n
  back n h = array_of_order 0 s n (rounding_length s w n h)

  -- of two controlled roundings one comes first, if they differ
  pub one_first : (k n : List ℕ) → Rounds k → Rounds n → (k ≡ n) ⊎ (Before r c k n ⊎ Before r c n k)
  one_first k n h i =
      ⊎_elim (λ e. inl (sym (back k h) ∙ ap (array_of 0 r c) e ∙ back n i)) (λ b. inr b)
      (one_before (map (choice w) (in_order 0 r c g)) (in_order 0 r c k) (in_order 0 r c n) (made_of s w k h) (made_of s w n i))

  -- only one array or nothing follows
  pub one_follows : (n : List ℕ) (a b : Option (List ℕ)) → Follows r c w g n a → Follows r c w g n b → a ≡ b
  one_follows n None None p q = refl
  one_follows n None (Some k) p q = absurd (p.none_after k q.rounding q.after)
  one_follows n (Some k) None p q = absurd (q.none_after k p.rounding p.after)
  one_follows n (Some k) (Some m) p q =
      ⊎_elim (λ e. ap Some e)
      (⊎_elim (λ b. absurd (q.none_between k p.rounding p.after b)) (λ b. absurd (p.none_between m q.rounding q.after b)))
      (one_first k m p.rounding q.rounding)

  -- the search
  module _ (n : List ℕ) where
    choices : List (Choice ℕ)
    choices = map (choice w) (in_order 0 r c g)

    test : List ℕ → Bool
    test l = is_smaller (in_order 0 r c n) l && is_rounding (two_ways r c) w g (array_of 0 r c l)

    passes : (m : List ℕ) → Rounds m → Before r c n m → test (in_order 0 r c m) ≡ true
    unfolding test
    passes m h b = and_both (so_smaller (in_order 0 r c n) (in_order 0 r c m) b) (rw (back m h) h)

    follows : (u : Option (List ℕ)) → Answer test choices u → Follows r c w g n (array_in r c u)
    unfolding test choices
    follows None a = record { none_after = λ m h b. a (in_order 0 r c m) (made_of s w m h) (passes m h b) }
    follows (Some l) a =
        let order : in_order 0 r c (array_of 0 r c l) ≡ l = order_of_array 0 s l (made_length s w l a.within) in
        record {
          rounding = and_right (is_smaller (in_order 0 r c n) l) (is_rounding (two_ways r c) w g (array_of 0 r c l)) a.passes;
          after = rw order (is_smaller_lem (in_order 0 r c n) l (and_left (is_smaller (in_order 0 r c n) l) (is_rounding (two_ways r c) w g (array_of 0 r c l)) a.passes));
          none_between = λ m h b e. a.first (in_order 0 r c m) (made_of s w m h) (passes m h b) (rw order at e);
        }

    pub next_follows : Follows r c w g n (next_rounding r c w g n)
    unfolding next_rounding test choices
    next_follows = follows (first_of test choices) (answer test choices (ordered w (in_order 0 r c g)))
