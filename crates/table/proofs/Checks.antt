-- What the check of a table says on each way through its tests. Assumes nothing.
use Rattle.std.specs.Prelude.{Option, Some, None, Result, Ok, Err}
use mathlib.Core.Path.{◌≡◌, refl, sym, ◌∙◌}
use mathlib.Core.Bool.{Bool, true, false, not, ◌&&◌}
use mathlib.Core.List.{List, [], ◌∷◌, ◌++◌}
use mathlib.Core.Logic.{◌⊎◌, inl, inr}
use Prim.Native.Nat.{ℕ, ◌*◌, ◌<◌, ◌≤◌}
use native.Mathlib.Omega.{arith}
use lib.ListN.{length, get_or}
use lib.Dec.{leb, eqb}
use borrow.Author.Tests.{lt-leb, le-leb, leb-true, eqb-true, not-true, not-false}
use Rattle.refusals.specs.declared.Refusal.{Refusal}
use Rattle.refusals.specs.Due.{Test, refuse, due}
use Rattle.refusals.proofs.Dues.{not_here, not_later, due_first, due_second, first_none}
use Rattle.table.specs.Check.{up_to, cells_within, size_within, denominator_within, size_tests, table_refusal, BelowZero}
use Rattle.refusals.specs.declared.Refusal.TheVariants.{Size, Denominator, CellCount, LargeCell}
use Rattle.table.specs.declared.Table.{Table}
use Rattle.table.specs.Clauses.{IsTable, answered, sizes_of, check_of_cells, check_of}
use Rattle.base.proofs.Lists.{all_elim, all_at_member, and_left, and_right}

pub too_small : (bound n : ℕ) → n < 1 → false ≡ up_to bound n
too_small bound n h = simp (lt-leb 1 n h)

pub small_enough : (bound n : ℕ) → 1 ≤ n → leb n bound ≡ up_to bound n
small_enough bound n h = simp (le-leb 1 n h)

pub inside : (bound n : ℕ) → 1 ≤ n → n ≤ bound → up_to bound n ≡ true
inside bound n h l = sym (small_enough bound n h) ∙ le-leb n bound l

pub too_large : (bound n : ℕ) → bound < n → false ≡ up_to bound n
too_large bound n h = let some : 1 ≤ n = omega arith in simp (le-leb 1 n some, lt-leb n bound h)

pub up_to_low : (bound n : ℕ) → up_to bound n ≡ true → 1 ≤ n
up_to_low bound n h = leb-true 1 n (and_left (leb 1 n) (leb n bound) h)

pub up_to_high : (bound n : ℕ) → up_to bound n ≡ true → n ≤ bound
up_to_high bound n h = leb-true n bound (and_right (leb 1 n) (leb n bound) h)

-- the ways through the check of the sizes
module _ (r c d n : ℕ) (b : Bool) (be : b ≡ size_within r c) where
  pub bad_size : not b ≡ true → Err Size ≡ sizes_of r c d n
  unfolding sizes_of due
  bad_size h = simp (sym be ∙ not-true b h)

  module _ (bh : not b ≡ false) (y : Bool) (ye : y ≡ denominator_within d) where
    size_good : size_within r c ≡ true
    size_good = sym be ∙ not-false b bh

    pub bad_denominator : not y ≡ true → Err Denominator ≡ sizes_of r c d n
    unfolding sizes_of due
    bad_denominator h = simp (size_good, sym ye ∙ not-true y h)

    module _ (yh : not y ≡ false) (z : Bool) (ze : z ≡ eqb n (r * c)) where
      denominator_good : denominator_within d ≡ true
      denominator_good = sym ye ∙ not-false y yh

      pub bad_count : not z ≡ true → Err CellCount ≡ sizes_of r c d n
      unfolding sizes_of due
      bad_count h = simp (size_good, denominator_good, sym ze ∙ not-true z h)

      pub good : not z ≡ false → Ok (record { rows = r; columns = c; denominator = d }) ≡ sizes_of r c d n
      unfolding sizes_of due
      good h = simp (size_good, denominator_good, sym ze ∙ not-false z h)

-- what sizes that are refused nothing are
pub record Sized (r c d n : ℕ) : Type 0 where
  pub some_rows : 1 ≤ r
  pub rows : r ≤ 12
  pub some_columns : 1 ≤ c
  pub columns : c ≤ 12
  pub count : n ≡ r * c
  pub some_denominator : 1 ≤ d
  pub denominator : d ≤ 65535

pub passed_sizes : (r c d n : ℕ) → due (size_tests r c d n) ≡ None → Sized r c d n
passed_sizes r c d n h =
    let size : (up_to 12 r && up_to 12 c) ≡ true = not-false _ (not_here _ _ h) in
    let h₁ = not_later _ _ h in
    let denominator : up_to 65535 d ≡ true = not-false _ (not_here _ _ h₁) in
    let count : eqb n (r * c) ≡ true = not-false _ (not_here _ _ (not_later _ _ h₁)) in
    let rows = and_left (up_to 12 r) (up_to 12 c) size in
    let columns = and_right (up_to 12 r) (up_to 12 c) size in
    record {
      some_rows = up_to_low 12 r rows;
      rows = up_to_high 12 r rows;
      some_columns = up_to_low 12 c columns;
      columns = up_to_high 12 c columns;
      count = eqb-true _ _ count;
      some_denominator = up_to_low 65535 d denominator;
      denominator = up_to_high 65535 d denominator;
    }

-- what an answer says of what is due
module _ (r c d : ℕ) (o : Option Refusal) where
  pub answered_refused : (x : Refusal) → Err x ≡ answered r c d o → o ≡ Some x
  answered_refused x e = go o refl e
    where
      go : (u : Option Refusal) → o ≡ u → Err x ≡ answered r c d u → o ≡ Some x
      go None p q = let z : ◌≡◌ {A = ℕ} 0 1 = cc in absurd (omega arith)
      go (Some y) p q = p ∙ cc

  pub answered_nothing : (t : Table) → Ok t ≡ answered r c d o → o ≡ None
  answered_nothing t e = go o refl e
    where
      go : (u : Option Refusal) → o ≡ u → Ok t ≡ answered r c d u → o ≡ None
      go None p q = p
      go (Some x) p q = let z : ◌≡◌ {A = ℕ} 0 1 = cc in absurd (omega arith)

  pub answered_sizes : (t : Table) → Ok t ≡ answered r c d o → t ≡ record { rows = r; columns = c; denominator = d }
  answered_sizes t e = let n = answered_nothing t e in let f : Ok t ≡ answered r c d None = rw n at e in cc

-- the ways through the check of n cells that are within their bounds or not, whatever kind of number a cell is
module _ (r c d n : ℕ) {k : Result Table Refusal} (e : k ≡ sizes_of r c d n) where
  pub bad_sizes : (within : Bool) (x : Refusal) → k ≡ Err x → Err x ≡ check_of_cells r c d n within
  unfolding sizes_of check_of_cells
  bad_sizes within x h =
      rw (due_first (size_tests r c d n) (refuse LargeCell (not within) ∷ []) x (answered_refused r c d (due (size_tests r c d n)) x (sym h ∙ e))) refl

  module _ {t : Table} (h : k ≡ Ok t) where
    nothing : due (size_tests r c d n) ≡ None
    unfolding sizes_of
    nothing = answered_nothing r c d (due (size_tests r c d n)) t (sym h ∙ e)

    pub denominator_small : d ≤ 65535
    denominator_small = (passed_sizes r c d n nothing).denominator

    sizes_are : t ≡ record { rows = r; columns = c; denominator = d }
    unfolding sizes_of
    sizes_are = answered_sizes r c d (due (size_tests r c d n)) t (sym h ∙ e)

    module _ {within : Bool} (z : Bool) (ze : z ≡ within) where
      pub bad_cell : not z ≡ true → Err LargeCell ≡ check_of_cells r c d n within
      unfolding check_of_cells due
      bad_cell l = rw (due_second (size_tests r c d n) (refuse LargeCell (not within) ∷ []) nothing) (simp (sym ze ∙ not-true z l))

      pub good_cells : not z ≡ false → Ok t ≡ check_of_cells r c d n within
      unfolding check_of_cells due
      good_cells l = rw (sizes_are, due_second (size_tests r c d n) (refuse LargeCell (not within) ∷ []) nothing) (simp (sym ze ∙ not-false z l))

-- cells of such sizes that are within the bound are a table
pub sized_table : {r c d : ℕ} {g : List ℕ} → Sized r c d (length g) → ((k : ℕ) → k < length g → get_or g k 0 ≤ 1000 * d) → IsTable r c d g
sized_table s h = record {
  shape = record { some_rows = s.some_rows; rows = s.rows; some_columns = s.some_columns; columns = s.columns; cells = s.count };
  some_denominator = s.some_denominator;
  denominator = s.denominator;
  within = h;
}

-- of one list of tests and one test more nothing is due: so not of that test
pub last_passed : (l : List Test) (x : Refusal) (b : Bool) → due (l ++ (refuse x (not b) ∷ [])) ≡ None → b ≡ true
last_passed l x b h = not-false b (not_here _ _ (sym (due_second l (refuse x (not b) ∷ []) (first_none l _ h)) ∙ h))

-- what the answer of the check says
module _ (r c d : ℕ) (g : List ℕ) where
  pub passed_all : table_refusal r c d g ≡ None → IsTable r c d g
  unfolding table_refusal
  passed_all h =
      sized_table (passed_sizes r c d (length g) (first_none (size_tests r c d (length g)) _ h))
      (λ k i. leb-true (get_or g k 0) (1000 * d) (all_elim _ g 0 (last_passed (size_tests r c d (length g)) LargeCell (cells_within d g) h) k i))

  -- an accepted table: its sizes, and that no refusal is due
  pub record Taken (t : Table) : Type 0 where
    pub table : IsTable r c d g
    pub sizes : t ≡ record { rows = r; columns = c; denominator = d }
    pub nothing_due : table_refusal r c d g ≡ None

  pub accepted : (t : Table) → Ok t ≡ check_of r c d g → Taken t
  unfolding check_of check_of_cells table_refusal
  accepted t e =
      let nothing = answered_nothing r c d (table_refusal r c d g) t e in
      record { table = passed_all nothing; sizes = answered_sizes r c d (table_refusal r c d g) t e; nothing_due = nothing }

  pub refused : (x : Refusal) → Err x ≡ check_of r c d g → table_refusal r c d g ≡ Some x
  unfolding check_of check_of_cells table_refusal
  refused x e = answered_refused r c d (table_refusal r c d g) x e

-- a cell below zero is above the bound of every denominator
pub below_zero : (r c d : ℕ) (g : List ℕ) → BelowZero r c d g → table_refusal r c d g ≡ Some LargeCell
unfolding table_refusal due
below_zero r c d g z = due_second (size_tests r c d (length g)) (refuse LargeCell (not (cells_within d g)) ∷ []) z.sizes ∙ go (cells_within d g) refl
  where
    go : (b : Bool) → cells_within d g ≡ b → due (refuse LargeCell (not (cells_within d g)) ∷ []) ≡ Some LargeCell
    go false e = rw e refl
    go true e =
        let low = leb-true z.cell (1000 * d) (all_at_member _ g e z.there) in
        absurd (omega (arith, low, z.below, (passed_sizes r c d (length g) z.sizes).denominator))

-- a table of such sizes meets 4 or nothing
pub four_or_none : (r c d : ℕ) (g : List ℕ) → due (size_tests r c d (length g)) ≡ None → (table_refusal r c d g ≡ None) ⊎ (table_refusal r c d g ≡ Some LargeCell)
unfolding table_refusal due
four_or_none r c d g h = go (cells_within d g) refl
  where
    sized : table_refusal r c d g ≡ due (refuse LargeCell (not (cells_within d g)) ∷ [])
    sized = due_second (size_tests r c d (length g)) (refuse LargeCell (not (cells_within d g)) ∷ []) h

    go : (b : Bool) → cells_within d g ≡ b → (table_refusal r c d g ≡ None) ⊎ (table_refusal r c d g ≡ Some LargeCell)
    go true e = inl (sized ∙ rw e refl)
    go false e = inr (sized ∙ rw e refl)
