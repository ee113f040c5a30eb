-- Which entry set the weight of an array (specification, "Which entry set the weight"). Assumes nothing.
use Rattle.std.specs.Prelude.{Bool, cond, List, [], ◌∷◌, ◌++◌, ℕ, ◌+◌, ◌-◌, ◌*◌, ◌/◌, ◌%◌, eqb}
use Rattle.base.specs.Lists.{tabulate, all}
use Rattle.base.specs.Search.{first_that}
use Rattle.table.specs.Table.{cell_places, row_places, column_places, all_places, entry_places, total}
use Rattle.table.specs.Whole.{down, whole}
use Rattle.planning.specs.Rounds.{limit_of, Round}
use Rattle.reasons.specs.declared.Entry.{Entry}
use Rattle.reasons.specs.declared.Entry.TheVariants.{Cell, RowTotal, ColumnTotal, GrandTotal}
use Rattle.reasons.specs.declared.Direction.{Direction}
use Rattle.reasons.specs.declared.Direction.TheVariants.{Down, Up, AllWhole}
use Rattle.reasons.specs.declared.Explanation.{Explanation}

-- the entries by name, in their order: cells row by row, row totals, column totals, grand total; rows and columns are counted from 1
unfoldable pub named_entries : ℕ → ℕ → List Entry
named_entries r c =
    tabulate (r * c) (λ k. Cell (k / c + 1) (k % c + 1))
    ++ (tabulate r (λ i. RowTotal (i + 1)) ++ (tabulate c (λ j. ColumnTotal (j + 1)) ++ (GrandTotal ∷ [])))

-- the cells that a named entry is the sum of, by their places
abbrev pub places_of : ℕ → ℕ → Entry → List ℕ
places_of r c (Cell i j) = cell_places ((i - 1) * c + (j - 1))
places_of r c (RowTotal i) = row_places c (i - 1)
places_of r c (ColumnTotal j) = column_places r c (j - 1)
places_of r c GrandTotal = all_places r c

-- an entry of the table that a round begins with, and that of the round's array
abbrev pub expected_in : ℕ → ℕ → Round → Entry → ℕ
expected_in r c x e = total x.table (places_of r c e)

abbrev pub count_in : ℕ → ℕ → Round → Entry → ℕ
count_in r c x e = total x.array.counts (places_of r c e)

-- an entry's limit is the weight of the round's array
abbrev pub sets : ℕ → ℕ → Round → Entry → Bool
sets r c x e = eqb (limit_of x.left (expected_in r c x e) (count_in r c x e)) x.array.weight

-- the first entry whose limit is the weight. Of every round of a plan there is one (`Explained`, `entry`), so that `GrandTotal` is not made up.
unfoldable pub set_by : ℕ → ℕ → Round → Entry
set_by r c x = first_that (sets r c x) (named_entries r c) GrandTotal

-- all entries of the table that a round begins with are whole
unfoldable pub all_whole : ℕ → ℕ → Round → Bool
all_whole r c x = all (λ s. whole x.left (total x.table s)) (entry_places r c)

-- a reason: an entry, with the way it was rounded
abbrev pub reason : Entry → Direction → Explanation
reason e way = record { entry = e; direction = way }

-- the reason of a round: the entry that set the weight, with whether it was rounded down or up, or that all are whole
unfoldable pub reason_of : ℕ → ℕ → Round → Explanation
reason_of r c x =
    let e = set_by r c x in
    reason e (cond (all_whole r c x) AllWhole (cond (eqb (count_in r c x e) (down x.left (expected_in r c x e))) Down Up))
