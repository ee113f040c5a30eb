-- One round on the grid is one round of the plan. Assumes nothing.
use mathlib.Core.Path.{◌≡◌, sym, ap, ap₂, ◌∙◌}
use mathlib.Core.Bool.{true}
use mathlib.Core.List.{List, []}
use Prim.Native.Nat.{ℕ, ◌+◌, ◌*◌, ◌/◌, ◌%◌, ◌≤◌, ◌<◌}
use native.Mathlib.Decide.{dec_lt}
use native.Mathlib.Nat.{zero-div}
use native.Mathlib.Omega.{arith}
use lib.ListN.{length, get_or, get_or-eq_default}
use lib.Seq.{ext_get_or}
use lib.Dec.{leb}
use borrow.Author.Tests.{le-leb, leb-true}
use Rattle.base.specs.Lists.{tabulate}
use Rattle.base.proofs.Lists.{all_at_member}
use Rattle.base.proofs.Listing.{listed_at}
use Rattle.table.specs.Table.{total, entry_places, max_denominator}
use Rattle.grid.specs.Clauses.{grid_places, grid_at, grid_of}
use Rattle.table.specs.Whole.{rounds_to}
use Rattle.table.specs.Clauses.{Shape, IsTable, max_entry}
use Rattle.table.proofs.Totals.{total_none}
use Rattle.grid.proofs.GridPlaces.{grid_at_lem, grid_entry, length_grid}
use Rattle.grid.proofs.GridTests.{grid_entries, grid_each}
use Rattle.grid.proofs.GridBounds.{grid_small}
use Rattle.grid.proofs.CellWrites.{cells_of_grid}
use Rattle.first_rounding.specs.First.{IsFirst, first_rounding}
use Rattle.first_rounding.specs.Clauses.{IsGrid, RoundedGrid}
use Rattle.first_rounding.proofs.Roundings.{rounding_grid}
use Rattle.first_rounding.proofs.Existence.{first_exists}
use Rattle.planning.specs.Rounds.{limit_of, weight_of, without}
use Rattle.planning.specs.Clauses.{Rounded, limit_at, Smallest, Bears, Lost, cells_in, HoldsTable, NextArray, RoundDone}
use Rattle.planning.proofs.OneRound.{attains, weight_most, weight_high, rest, rest_shape, rest_total}
use Rattle.planning.proofs.GridMembers.{cell_in_lem, row_in, column_in, grand_in}

module _ {w : ℕ} (wp : 0 < w) {e n : List ℕ} (o : RoundedGrid w e n) (r c : ℕ) (g : List ℕ) (s : Shape r c g) (is : e ≡ grid_of r c g) where
  array : List ℕ
  array = first_rounding r c w g

  first : IsFirst r c w g (first_rounding r c w g)
  first = first_exists s wp

  e_at : (k : ℕ) → k < 169 → get_or e k 0 ≡ grid_at r c g (k / 13) (k % 13)
  e_at k h = ap (λ (l : List ℕ). get_or l k 0) is ∙ grid_entry r c g k h

  n_at : (k : ℕ) → k < 169 → get_or n k 0 ≡ grid_at r c (first_rounding r c w g) (k / 13) (k % 13)
  n_at k h = ap (λ (l : List ℕ). get_or l k 0) (o.is r c g s is) ∙ grid_entry r c (first_rounding r c w g) k h

  pub entry_ok : (k : ℕ) → k < 169 → rounds_to w (get_or e k 0) (get_or n k 0) ≡ true
  entry_ok k h = rw (e_at k h, n_at k h) (rounding_grid s w (first_rounding r c w g) first.rounding (k / 13) (k % 13) (omega arith) (omega arith))

  -- the smallest limit of the grid is the smallest of the entries
  limit_none : limit_of w (total g []) (total (first_rounding r c w g) []) ≡ w
  unfolding limit_of
  limit_none = rw (total_none g, total_none (first_rounding r c w g)) (rw (zero-div w) (omega arith))

  low : (k : ℕ) → k < 169 → weight_of r c w g (first_rounding r c w g) ≤ limit_of w (get_or e k 0) (get_or n k 0)
  unfolding grid_at
  low k h = rw (e_at k h, n_at k h)
      (grid_each r c (λ x. weight_of r c w g (first_rounding r c w g) ≤ limit_of w (total g x) (total (first_rounding r c w g) x))
      (rw limit_none (weight_high s w wp _ first.rounding))
      (λ i l. weight_most s w wp _ first.rounding (cell_in_lem r c i l))
      (λ i l. weight_most s w wp _ first.rounding (row_in r c i l))
      (λ j l. weight_most s w wp _ first.rounding (column_in r c j l))
      (weight_most s w wp _ first.rounding (grand_in r c))
      (k / 13) (k % 13))

  module _ {l : List ℕ} (lm : l ≡ tabulate 169 (limit_at w e n)) {x : ℕ} (sm : Smallest l x) where
    test : (p q : ℕ) → p < 13 → q < 13 → leb x (limit_of w (total g (grid_places r c p q)) (total (first_rounding r c w g) (grid_places r c p q))) ≡ true
    unfolding grid_at
    test p q hp hq =
        let k : p * 13 + q < 169 = omega arith in
        let a = grid_at_lem r c g p q hp hq in
        let b = grid_at_lem r c (first_rounding r c w g) p q hp hq in
        let ea : get_or e (p * 13 + q) 0 ≡ grid_at r c g p q = ap (λ (l : List ℕ). get_or l (p * 13 + q) 0) is ∙ a in
        let na : get_or n (p * 13 + q) 0 ≡ grid_at r c (first_rounding r c w g) p q = ap (λ (l : List ℕ). get_or l (p * 13 + q) 0) (o.is r c g s is) ∙ b in
        le-leb x _ (rw (listed_at 169 (limit_at w e n) l lm (p * 13 + q) k ∙ ap₂ (limit_of w) ea na) at (sm.low (p * 13 + q) k))

    pub weight_is : x ≡ weight_of r c w g (first_rounding r c w g)
    weight_is =
        let t = attains s w wp _ first.rounding in
        let up : x ≤ weight_of r c w g (first_rounding r c w g) = rw t.is
        (leb-true x _ (all_at_member (λ y. leb x (limit_of w (total g y) (total (first_rounding r c w g) y))) (entry_places r c)
        (grid_entries s (λ y. leb x (limit_of w (total g y) (total (first_rounding r c w g) y))) test) t.member)) in
        omega (arith, low sm.place sm.inside, sm.is, listed_at 169 (limit_at w e n) l lm sm.place sm.inside)

-- the next array's entries are rounded
rounded_by : {w : ℕ} {e n l : List ℕ} {x : ℕ} → NextArray w e n l x → RoundedGrid w e n
rounded_by o = record { is = o.array }

-- what the next array leaves
module _ {w : ℕ} (wp : 0 < w) {e n l : List ℕ} {x : ℕ} (o : NextArray w e n l x) (r c : ℕ) (g : List ℕ) (s : Shape r c g) (is : e ≡ grid_of r c g) where
  taken : (k : ℕ) → k < 169 → grid_at r c (without x (first_rounding r c w g) g) (k / 13) (k % 13) + x * get_or n k 0 ≡ get_or e k 0
  unfolding grid_at rest
  taken k h = rw (e_at wp (rounded_by o) r c g s is k h, n_at wp (rounded_by o) r c g s is k h, o.weight r c g s is)
      (rest_total s w wp _ (first_exists s wp).rounding (grid_places r c (k / 13) (k % 13)))

  pub entry_bears : (k : ℕ) → k < 169 → x * get_or n k 0 ≤ get_or e k 0
  entry_bears k h = omega (arith, taken k h)

  pub left_is : {e' : List ℕ} → Lost x e n e' → e' ≡ grid_of r c (without x (first_rounding r c w g) g)
  left_is {e'} z =
      ext_get_or 0 e' _ (z.len ∙ sym (length_grid r c _))
      (λ k l. let h : k < 169 = omega (arith, z.len) in
      let there = grid_entry r c (without x (first_rounding r c w g) g) k h in
      omega (arith, z.is k h, taken k h))

-- for the table that the grid belongs to
module _ {w : ℕ} (wp : 0 < w) {e n : List ℕ} (i : IsGrid e) where
  pub rounded : w ≤ max_denominator → RoundedGrid w e n → Rounded w e n
  rounded ws o = record { some = wp; small = ws; entry_small = i.small; rounds = entry_ok wp o i.rows i.columns i.cells i.shape i.is }

  pub next_array_is : RoundedGrid w e n → {l : List ℕ} → l ≡ tabulate 169 (limit_at w e n) → {x : ℕ} → Smallest l x → NextArray w e n l x
  next_array_is o lm sm = record { array = o.is; limits = lm; weight = λ r c g s is. weight_is wp o r c g s is lm sm }

  module _ {l : List ℕ} {x : ℕ} (o : NextArray w e n l x) where
    pub bears : length e ≡ 169 → Bears x e n
    bears h = record { len = h; small = i.small; enough = entry_bears wp o i.rows i.columns i.cells i.shape i.is }

    pub round_done : {e' : List ℕ} → Lost x e n e' → RoundDone w e n x e'
    round_done z = record { array = o.array; weight = o.weight; left = λ r c g s is. left_is wp o r c g s is z }

pub grid_length : {e : List ℕ} → IsGrid e → length e ≡ 169
grid_length i = ap length i.is ∙ length_grid i.rows i.columns i.cells

-- a grid that has the entries of a table of r by c cells
pub is_grid : {r c : ℕ} {e : List ℕ} → HoldsTable r c e → IsGrid e
is_grid {r} {c} {e} h = record { rows = r; columns = c; cells = cells_in r c e; shape = h.shape; is = h.grid; small = h.small }

module _ {r c : ℕ} {e g : List ℕ} (s : Shape r c g) (is : e ≡ grid_of r c g) where
  cells_are : cells_in r c e ≡ g
  cells_are = ap (cells_in r c) is ∙ cells_of_grid s

  pub holds_table : ((k : ℕ) → get_or e k 0 ≤ max_entry) → HoldsTable r c e
  holds_table h = record { shape = rw cells_are s; grid = is ∙ ap (grid_of r c) (sym cells_are); small = h }

pub table_held : {r c d : ℕ} {e g : List ℕ} → IsTable r c d g → e ≡ grid_of r c g → HoldsTable r c e
table_held t is = holds_table t.shape is (rw is (grid_small t))

-- a round of it
module _ {r c : ℕ} {w : ℕ} (wp : 0 < w) {e n : List ℕ} (h : HoldsTable r c e) {x : ℕ} {e' : List ℕ} (o : RoundDone w e n x e') where
  weight_same : x ≡ weight_of r c w (cells_in r c e) (first_rounding r c w (cells_in r c e))
  weight_same = o.weight r c (cells_in r c e) h.shape h.grid

  pub weight_within : x ≤ w
  weight_within = omega (arith, weight_same, weight_high h.shape w wp _ (first_exists h.shape wp).rounding)

  pub rest_held : Lost x e n e' → HoldsTable r c e'
  unfolding rest
  rest_held z = holds_table shape (o.left r c (cells_in r c e) h.shape h.grid) (λ k. small k (dec_lt k 169))
    where
      shape : Shape r c (without x (first_rounding r c w (cells_in r c e)) (cells_in r c e))
      shape = rw weight_same (rest_shape h.shape w wp _ (first_exists h.shape wp).rounding)

      small : (k : ℕ) → Dec (k < 169) → get_or e' k 0 ≤ max_entry
      small k (yes p) = omega (arith, z.is k p, h.small k)
      small k (no p) = omega (arith, get_or-eq_default e' 0 {n = k} (omega (arith, z.len)))
