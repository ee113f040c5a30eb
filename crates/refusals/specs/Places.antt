-- The order of the refusals (specification, "Refusals"). Assumes nothing.
use Rattle.std.specs.Prelude.{cond, List, [], ◌∷◌, ℕ, suc, eqb}
use Rattle.refusals.specs.declared.Refusal.{Refusal}
use Rattle.refusals.specs.Numbers.{number_of}

-- the order in which calls test, by the refusals' numbers: 1 to 10 rise; of those that came later, 15 comes straight after 1, 11, 12, 14 and 16 come before 5,
-- and 13 before 10
abbrev pub order : List ℕ
order = 1 ∷ 15 ∷ 2 ∷ 3 ∷ 4 ∷ 11 ∷ 12 ∷ 14 ∷ 16 ∷ 5 ∷ 6 ∷ 7 ∷ 8 ∷ 9 ∷ 13 ∷ 10 ∷ []

-- and in a call that takes a stored plan: how many arrays there are is known once it opens, so 14 stands after 6
abbrev pub order_on_plan : List ℕ
order_on_plan = 1 ∷ 15 ∷ 2 ∷ 3 ∷ 4 ∷ 11 ∷ 12 ∷ 16 ∷ 5 ∷ 6 ∷ 14 ∷ 7 ∷ 8 ∷ 9 ∷ 13 ∷ 10 ∷ []

-- the place of a refusal in such an order, counted from 0, and the order's length where it has none (`refusals::claims`, `places`: each has one)
unfoldable pub place_in : List ℕ → Refusal → ℕ
place_in [] x = 0
place_in (n ∷ l) x = cond (eqb n (number_of x)) 0 (suc (place_in l x))
