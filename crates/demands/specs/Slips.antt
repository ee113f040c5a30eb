-- The slips (specification, "Slips that are shut out"): for each, the wrong way written out, and what is asked of its result and of the definitions'.
-- Assumes nothing.
use Rattle.std.specs.Prelude.{◌≡◌, Bool, true, false, cond, not, ◌&&◌, ◌||◌, ℕ, zero, suc, ◌+◌, ◌-◌, ◌*◌, get_or, set, take, eqb, ltb}
use mathlib.Core.List.{List, [], ◌∷◌, map, zip_with}
use Rattle.base.specs.Lists.{tabulate, sum, least, all, every}
use Rattle.table.specs.Table.{total, cell_places, entry_places}
use Rattle.table.specs.Whole.{down, whole}
use Rattle.refusals.specs.Due.{none_applies}
use Rattle.first_rounding.specs.Order.{found, first_of}
use Rattle.is_rounding.specs.Rounding.{two_ways, is_rounding}
use Rattle.first_rounding.specs.First.{first_rounding}
use Rattle.weighted_arrays.specs.Plan.{Weighted, Plan}
use Rattle.form.specs.Form.{encode, decode}
use Rattle.form.specs.Examples.{square, with_weight}
use Rattle.opening.specs.Open.{open_tests}
use Rattle.drawing.specs.Draw.{drawn_array}
use Rattle.planning.specs.Rounds.{limit_of, without, plan_of}
use Rattle.records.specs.Record.{CampaignRecord, record_of}
use Rattle.campaign_draw.specs.Draw.{Asked, Made, ask, made}
use Rattle.demands.specs.Runs.{draws, last_record, drawn}

-- two lists of numbers are the same
abbrev pub same : List ℕ → List ℕ → Bool
same [] [] = true
same [] (y ∷ m) = false
same (x ∷ l) [] = false
same (x ∷ l) (y ∷ m) = eqb x y && same l m

-- leftover weight given to the last array: rounding gets stuck after the first k arrays
abbrev pub heavier : ℕ → List Weighted → List Weighted
heavier x [] = []
heavier x (a ∷ []) = with_weight (a.weight + x) a.counts ∷ []
heavier x (a ∷ b ∷ l) = a ∷ heavier x (b ∷ l)

abbrev pub stuck_after : ℕ → Plan → Plan
stuck_after k p =
    let kept = take k p.arrays in
    record {
      rows = p.rows;
      columns = p.columns;
      denominator = p.denominator;
      cells = p.cells;
      arrays = heavier (p.denominator - sum (map (λ a. a.weight) kept)) kept;
    }

-- asked of a plan: it opens
abbrev pub opens : Plan → Bool
opens p = none_applies (open_tests (encode p))

-- limits taken over cells only: rounds with such weights, at most `fuel` of them
abbrev pub weight_over_cells : ℕ → ℕ → ℕ → List ℕ → List ℕ → ℕ
weight_over_cells r c w g n = least (map (λ s. limit_of w (total g s) (total n s)) (tabulate (r * c) cell_places))

unfoldable pub rounds_over_cells : ℕ → ℕ → ℕ → ℕ → List ℕ → List Weighted
rounds_over_cells zero r c w g = []
rounds_over_cells (suc fuel) r c zero g = []
rounds_over_cells (suc fuel) r c (suc v) g =
    let w = suc v in
    let n = first_rounding r c w g in
    let x = weight_over_cells r c w g n in
    with_weight x n ∷ rounds_over_cells fuel r c (w - x) (without x n g)

-- asked of arrays: the total at some places, over d, is rounded down or up in each of them
abbrev pub keeps_total : ℕ → List ℕ → List ℕ → List Weighted → Bool
keeps_total d g s l = all (λ a. eqb (total a.counts s) (down d (total g s)) || eqb (total a.counts s) (down d (total g s) + 1)) l

-- cells rounded alone, and totals mended afterwards: every cell rounded down, and then, by a list of places, one more at each cell that is not
-- whole until the grand total is reached
abbrev pub alone : ℕ → List ℕ → List ℕ
alone w g = map (down w) g

unfoldable pub mended : ℕ → List ℕ → List ℕ → List ℕ → List ℕ
mended w g [] n = n
mended w g (i ∷ l) n =
    mended w g l (cond (ltb (sum n) (down w (sum g)) && not (whole w (get_or g i 0))) (set n i (get_or n i 0 + 1)) n)

-- a whole cell that varies: every entry, whole or not, may be rounded down or one above
abbrev pub loose : ℕ → ℕ → ℕ → Bool
loose w e n = eqb n (down w e) || eqb n (down w e + 1)

abbrev pub first_loose : ℕ → ℕ → ℕ → List ℕ → List ℕ
first_loose r c w g =
    found (first_of (λ n. all (λ s. loose w (total g s) (total n s)) (entry_places r c)) (map (λ e. record { low = down w e; high = down w e + 1 }) g))

-- a refused draw counted in the tally: a draw that adds its array to the tally whatever its answer, and is else as defined
abbrev pub counting_all : List ℕ → CampaignRecord → Asked → Made
counting_all b s x =
    let t = made b s x in
    record {
      asked = x;
      given = s;
      answer = t.answer;
      left = record_of t.left.taken t.left.rounds t.left.bits (zip_with ◌+◌ s.tally (drawn_array b x.number));
      result = t.result;
    }

unfoldable pub draws_counting_all : List ℕ → CampaignRecord → List Asked → List Made
draws_counting_all b s [] = []
draws_counting_all b s (x ∷ l) = counting_all b s x ∷ draws_counting_all b (counting_all b s x).left l

-- asked of a run of the square campaign: the tally is what was drawn, cell by cell
abbrev pub tallied : List Made → Bool
tallied run = every 4 (λ i. eqb (get_or (last_record (record_of 0 0 [] []) run).tally i 0) (drawn (decode square) run (i ∷ [])))

abbrev pub twice : List Asked
twice = ask 0 (8 ∷ 8 ∷ 8 ∷ 8 ∷ []) ∷ ask 0 (8 ∷ 8 ∷ 8 ∷ 8 ∷ []) ∷ []

abbrev pub cleared : CampaignRecord
cleared = record_of 0 0 (0 ∷ []) (0 ∷ 0 ∷ 0 ∷ 0 ∷ [])

-- what is asked, of the definitions' result and of the wrong way's
pub record Slip : Type 0 where
  pub right : Bool
  pub wrong : Bool

abbrev pub slip : Bool → Bool → Slip
slip x y = record { right = x; wrong = y }

-- the first table of the examples, and that with four halves
abbrev pub first : List ℕ
first = 3 ∷ 4 ∷ 5 ∷ 6 ∷ []

abbrev pub halves : List ℕ
halves = 1 ∷ 1 ∷ 1 ∷ 1 ∷ []

abbrev pub slips : List Slip
slips =
    -- leftover weight given to the second array of four
    slip (opens (plan_of 2 2 10 first)) (opens (stuck_after 2 (plan_of 2 2 10 first)))
    -- limits over cells: the total of the first column, 8 over 10, comes to 2
    ∷ slip (keeps_total 10 first (0 ∷ 2 ∷ []) (plan_of 2 2 10 first).arrays) (keeps_total 10 first (0 ∷ 2 ∷ []) (rounds_over_cells 10 2 2 10 first))
    -- mending along the rows, and along the columns: no controlled rounding
    ∷ slip (is_rounding (two_ways 2 2) 2 halves (first_rounding 2 2 2 halves)) (is_rounding (two_ways 2 2) 2 halves (mended 2 halves (0 ∷ 1 ∷ 2 ∷ 3 ∷ []) (alone 2 halves)))
    ∷ slip (is_rounding (two_ways 2 2) 2 halves (first_rounding 2 2 2 halves)) (is_rounding (two_ways 2 2) 2 halves (mended 2 halves (0 ∷ 2 ∷ 1 ∷ 3 ∷ []) (alone 2 halves)))
    -- along the diagonal: a controlled rounding, as `mended_rounds` says, and not the first
    ∷ slip (same (0 ∷ 1 ∷ 1 ∷ 0 ∷ []) (first_rounding 2 2 2 halves)) (same (0 ∷ 1 ∷ 1 ∷ 0 ∷ []) (mended 2 halves (0 ∷ 3 ∷ 1 ∷ 2 ∷ []) (alone 2 halves)))
    -- one row 1 1 2 over 2: its whole cell rises to 2
    ∷ slip (is_rounding (two_ways 1 3) 2 (1 ∷ 1 ∷ 2 ∷ []) (first_rounding 1 3 2 (1 ∷ 1 ∷ 2 ∷ []))) (is_rounding (two_ways 1 3) 2 (1 ∷ 1 ∷ 2 ∷ []) (first_loose 1 3 2 (1 ∷ 1 ∷ 2 ∷ [])))
    -- number 0 drawn twice, the second time refused
    ∷ slip (tallied (draws square cleared twice)) (tallied (draws_counting_all square cleared twice))
    ∷ []

-- what is asked holds of the definitions' result, and not of the wrong way's
pub record SlipsShut : Type 0 where
  pub right : all (λ x. x.right) slips ≡ true
  pub wrong : all (λ x. not x.wrong) slips ≡ true
  pub mended_rounds : is_rounding (two_ways 2 2) 2 halves (mended 2 halves (0 ∷ 3 ∷ 1 ∷ 2 ∷ []) (alone 2 halves)) ≡ true
