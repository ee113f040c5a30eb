-- The ways through the call. Assumes nothing.
use Rattle.std.specs.Prelude.{Some, None, Result, Ok, Err}
use mathlib.Core.Path.{◌≡◌, sym, ◌∙◌}
use mathlib.Core.List.{List, [], ◌∷◌}
use Prim.Native.Nat.{ℕ, ◌*◌, ◌≤◌, ◌<◌}
use lib.Dec.{ltb}
use lib.IntN.{ℤ}
use borrow.Author.Tests.{lt-ltb, le-ltb}
use Rattle.refusals.specs.declared.Refusal.{Refusal}
use Rattle.refusals.specs.declared.Refusal.TheVariants.{Buffer}
use Rattle.refusals.specs.Due.{Test, refuse, due}
use Rattle.refusals.proofs.Dues.{due_first, due_second}
use Rattle.table.specs.Clauses.{check_of_cells}
use Rattle.table.specs.declared.Table.{Table}
use Rattle.table.proofs.Checks.{answered_refused, answered_nothing, answered_sizes}
use Rattle.base.specs.Buffers.{written}
use Rattle.corrections.specs.Rounding.{first_rounding}
use Rattle.correction_check.specs.Check.{table_tests, table_refusal}
use Rattle.correction_check.specs.Clauses.{check_of}
use Rattle.correction_check.proofs.Accepted.{accepted_sizes}
use Rattle.corrections.specs.Call.{round_refusal}

-- the ways through the call
module _ (r c d : ℕ) (g : List ℤ) (room : ℕ) {k : Result Table Refusal} (e : k ≡ check_of r c d g) where
  buffer : List Test
  buffer = refuse Buffer (ltb room (r * c)) ∷ []

  pub refused : {x : Refusal} → k ≡ Err x → round_refusal r c d g room ≡ Some x
  unfolding round_refusal check_of check_of_cells
  refused {x} h = due_first (table_tests r c d g) _ x (answered_refused r c d (due (table_tests r c d g)) x (sym h ∙ e))

  module _ {t : Table} (h : k ≡ Ok t) where
    nothing : table_refusal r c d g ≡ None
    unfolding check_of check_of_cells table_refusal
    nothing = answered_nothing r c d (table_refusal r c d g) t (sym h ∙ e)

    sizes : t ≡ record { rows = r; columns = c; denominator = d }
    unfolding check_of check_of_cells
    sizes = answered_sizes r c d (due (table_tests r c d g)) t (sym h ∙ e)

    pub accepted : table_refusal t.rows t.columns t.denominator g ≡ None
    accepted = rw sizes nothing

    pub few_rows : t.rows ≤ 12
    few_rows = rw sizes (accepted_sizes r c d g nothing).rows

    pub few_columns : t.columns ≤ 12
    few_columns = rw sizes (accepted_sizes r c d g nothing).columns

    pub done : (old new : List ℤ) → new ≡ written (first_rounding t.rows t.columns t.denominator g) old → new ≡ written (first_rounding r c d g) old
    done old new f = rw sizes at f

    pub short : room < t.rows * t.columns → round_refusal r c d g room ≡ Some Buffer
    unfolding round_refusal table_refusal due buffer
    short l = let n : room < r * c = rw sizes at l in due_second (table_tests r c d g) buffer nothing ∙ simp (lt-ltb room (r * c) n)

    pub enough : t.rows * t.columns ≤ room → round_refusal r c d g room ≡ None
    unfolding round_refusal table_refusal due buffer
    enough l = let n : r * c ≤ room = rw sizes at l in due_second (table_tests r c d g) buffer nothing ∙ simp (le-ltb room (r * c) n)
