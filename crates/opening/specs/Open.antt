-- When a plan opens, and the refusals of the calls that take one (specification, "Stored plan, form 1" and "Refusals"). Assumes nothing.
use Rattle.std.specs.Prelude.{◌≡◌, Bool, not, ◌&&◌, List, [], ◌∷◌, ◌++◌, map, ℕ, ◌*◌, get_or, leb, ltb, eqb, Option, None, Result, Ok, Err}
use Rattle.base.specs.Lists.{sum, all, every}
use Rattle.table.specs.Table.{entry_places, total}
use Rattle.table.specs.Whole.{rounds_to}
use Rattle.table.specs.Check.{cells_within}
use Rattle.refusals.specs.declared.Refusal.{Refusal}
use Rattle.refusals.specs.Due.{Test, refuse, due, refused_or}
use Rattle.refusals.specs.declared.Refusal.TheVariants.{Layout, Content, Buffer}
use Rattle.weighted_arrays.specs.Plan.{Weighted, Plan}
use Rattle.form.specs.Form.{sizes_of, laid_out, decode}
use Rattle.form.specs.declared.Sizes.{Sizes}

-- the entries that the arrays of an opened plan are held to, and these are all: every cell, row total and column total and the grand total is the table's
-- over D, rounded down or up
abbrev pub held_to : ℕ → ℕ → List (List ℕ)
held_to r c = entry_places r c

abbrev pub held : Plan → Weighted → Bool
held p a = all (λ s. rounds_to p.denominator (total p.cells s) (total a.counts s)) (held_to p.rows p.columns)

-- the counts at place i times the weights, added up
abbrev pub weighted : List Weighted → ℕ → ℕ
weighted l i = sum (map (λ a. a.weight * get_or a.counts i 0) l)

-- no cell is above 1000·D, no weight is 0, the weights make up D, every array is held to the entries, and the weighted counts make up each cell: else 6
unfoldable pub consistent : Plan → Bool
consistent p =
    cells_within p.denominator p.cells
    && all (λ a. leb 1 a.weight) p.arrays
    && eqb (sum (map (λ a. a.weight) p.arrays)) p.denominator
    && all (held p) p.arrays
    && every (p.rows * p.columns) (λ i. eqb (weighted p.arrays i) (get_or p.cells i 0))

-- The refusals of every call that takes a plan, in the order of their numbers: 5, the layout, the exact length or a bound is wrong;
-- 6, another opening condition is unmet.
abbrev pub open_tests : List ℕ → List Test
open_tests b = refuse Layout (not (laid_out b)) ∷ refuse Content (not (consistent (decode b))) ∷ []

unfoldable pub open_refusal : List ℕ → Option Refusal
open_refusal b = due (open_tests b)

-- a plan opens if neither of the two applies
abbrev pub Opens : List ℕ → Type 0
Opens b = open_refusal b ≡ None

-- the call "open" answers with the plan's sizes
unfoldable pub open_answer : List ℕ → Result Sizes Refusal
open_answer b = refused_or Err (Ok (sizes_of b)) (open_refusal b)

-- The refusals of a call that takes a plan and writes `need` numbers into a buffer of `room`: those of opening, 5 and 6; 7, the buffer is too short
abbrev pub part_tests : List ℕ → ℕ → ℕ → List Test
part_tests b need room = open_tests b ++ (refuse Buffer (ltb room need) ∷ [])

unfoldable pub part_refusal : List ℕ → ℕ → ℕ → Option Refusal
part_refusal b need room = due (part_tests b need room)
