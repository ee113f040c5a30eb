-- A run of a campaign, by the draws that were made, and its rounds (specification, "What every campaign is held to"). Assumes nothing.
use Rattle.std.specs.Prelude.{Bool, true, false, cond, ◌&&◌, ◌||◌, List, [], ◌∷◌, ◌++◌, map, ℕ, take, eqb, Result, Ok, Err, ⊤}
use Rattle.base.specs.Lists.{sum, sum_to}
use Rattle.table.specs.Table.{total}
use Rattle.weighted_arrays.specs.Plan.{Plan, cell_count, array_for}
use Rattle.records.specs.Record.{CampaignRecord}
use Rattle.campaign_draw.specs.Draw.{Asked, Made, made}
use Rattle.refusals.specs.declared.Refusal.{Refusal}

-- a list of campaign draws, refused ones among them: each gets the same plan, and the record as the call before left it
unfoldable pub draws : List ℕ → CampaignRecord → List Asked → List Made
draws b s [] = []
draws b s (x ∷ l) = made b s x ∷ draws b (made b s x).left l

-- the record as the last call left it, after a start that left s
unfoldable pub last_record : CampaignRecord → List Made → CampaignRecord
last_record s [] = s
last_record s (t ∷ l) = last_record t.left l

abbrev pub is_done : Result ⊤ Refusal → Bool
is_done (Ok tt) = true
is_done (Err x) = false

-- whether a draw of number d was accepted
unfoldable pub used : List Made → ℕ → Bool
used [] d = false
used (t ∷ l) d = is_done t.answer && eqb t.asked.number d || used l d

-- a number of each accepted draw, added up
unfoldable pub over_accepted : (Made → ℕ) → List Made → ℕ
over_accepted f l = sum (map (λ t. cond (is_done t.answer) (f t) 0) l)

-- m: how many draws were accepted
abbrev pub accepted : List Made → ℕ
accepted l = over_accepted (λ t. 1) l

-- what the arrays that accepted draws wrote add up to, at any places, so for a cell, a row or a column
abbrev pub drawn : Plan → List Made → List ℕ → ℕ
drawn p l s = over_accepted (λ t. total (take (cell_count p) t.result) s) l

-- what the arrays of the numbers that are not used add up to
unfoldable pub unused : Plan → List Made → List ℕ → ℕ
unused p l s = sum_to p.denominator (λ d. cond (used l d) 0 (total (array_for p.arrays d) s))

-- a list of draws round by round: the completed rounds, and the draws of the round that goes on, refused ones among them
pub record Rounds : Type 0 where
  pub completed : List (List Made)
  pub current : List Made

-- a draw more, of a campaign over D numbers: it belongs to the round that goes on, and completes it if D draws of that round are accepted with it
unfoldable pub one_more : ℕ → Rounds → Made → Rounds
one_more d r t =
    let round = r.current ++ (t ∷ []) in
    cond (eqb (accepted round) d)
    (record { completed = r.completed ++ (round ∷ []); current = [] })
    (record { completed = r.completed; current = round })

-- a list of draws more, and so a whole list
unfoldable pub further : ℕ → Rounds → List Made → Rounds
further d r [] = r
further d r (t ∷ l) = further d (one_more d r t) l

abbrev pub rounds_of : ℕ → List Made → Rounds
rounds_of d l = further d (record { completed = []; current = [] }) l

-- the draws of some rounds, one round after another, and then those of a list
unfoldable pub in_turn : List (List Made) → List Made → List Made
in_turn [] l = l
in_turn (c ∷ more) l = c ++ in_turn more l
