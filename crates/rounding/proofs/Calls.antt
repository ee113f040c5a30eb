-- From an accepted table to the buffer that its rounding is written to. Assumes nothing.
use Rattle.std.specs.Prelude.{Some, None, Ok, Err}
use mathlib.Core.Path.{◌≡◌, refl, ap, ◌∙◌}
use mathlib.Core.Bool.{true}
use mathlib.Core.List.{List}
use Prim.Native.Nat.{ℕ, ◌*◌, ◌<◌, ◌≤◌}
use native.Mathlib.Omega.{arith}
use lib.ListN.{length}
use Rattle.base.specs.Lists.{tabulate}
use Rattle.grid.specs.Clauses.{grid_of, grid_cell, Ready}
use Rattle.table.specs.Clauses.{Shape, IsTable, check_of}
use Rattle.base.specs.Clauses.{Filled}
use Rattle.base.specs.Buffers.{written}
use Rattle.table.specs.declared.Table.{Table}
use Rattle.refusals.specs.declared.Refusal.{Refusal}
use Rattle.refusals.specs.declared.Refusal.TheVariants.{Buffer}
use Rattle.table.proofs.Sizes.{shape_of}
use Rattle.table.proofs.Checks.{Taken}
use Rattle.table.proofs.Tables.{taken, not_taken, refused_table, refused_buffer, refused_nothing}
use Rattle.base.proofs.Filling.{filled_written}
use Rattle.is_rounding.specs.Rounding.{two_ways, is_rounding}
use Rattle.first_rounding.specs.First.{first_rounding}
use Rattle.grid.proofs.CellWrites.{cells_of_grid}
use Rattle.first_rounding.proofs.Small.{rounding_ready}
use Rattle.first_rounding.specs.Clauses.{RoundedGrid}
use Rattle.first_rounding.proofs.Existence.{first_exists}
use Rattle.rounding.specs.Call.{round_refusal}
use Rattle.first_rounding.proofs.Roundings.{rounding_length}

-- what the call writes
module _ {r c d : ℕ} {g : List ℕ} (t : IsTable r c d g) where
  module _ {e n : List ℕ} (is : e ≡ grid_of r c g) (o : RoundedGrid d e n) where
    array : List ℕ
    array = first_rounding r c d g

    array_rounds : is_rounding (two_ways r c) d g array ≡ true
    unfolding array
    array_rounds = (first_exists t.shape t.some_denominator).rounding

    array_shape : Shape r c array
    unfolding array
    array_shape = shape_of t.shape array (rounding_length t.shape d array array_rounds)

    pub cells_ready : (room : ℕ) → r * c ≤ room → Ready n r c room 0
    unfolding array
    cells_ready room h = rounding_ready t _ array_rounds (o.is r c g t.shape is) (omega arith)

    pub rounding_written : {old new : List ℕ} → r * c ≤ length old → Filled (grid_cell n c) 0 old new (r * c) → new ≡ written (first_rounding r c d g) old
    unfolding array
    rounding_written {old} {new} h f =
        filled_written f h
        ∙ ap (λ (l : List ℕ). written l old)
        (ap (λ (l : List ℕ). tabulate (r * c) (grid_cell l c)) (o.is r c g t.shape is) ∙ cells_of_grid array_shape)

-- the ways through the call
module _ (r c d : ℕ) (g : List ℕ) (room : ℕ) where
  pub refused : {x : Refusal} → check_of r c d g ≡ Err x → round_refusal r c d g room ≡ Some x
  unfolding round_refusal
  refused h = refused_table r c d g room (r * c) _ (not_taken r c d g refl _ h)

  module _ {t : Table} (h : check_of r c d g ≡ Ok t) where
    told : Taken r c d g t
    told = taken r c d g refl t h

    pub short : room < length g → round_refusal r c d g room ≡ Some Buffer
    unfolding round_refusal
    short l = refused_buffer r c d g room (r * c) told.nothing_due (omega (arith, told.table.shape.cells))

    pub enough : length g ≤ room → round_refusal r c d g room ≡ None
    unfolding round_refusal
    enough l = refused_nothing r c d g room (r * c) told.nothing_due (omega (arith, told.table.shape.cells))

    pub done : (old new : List ℕ) → new ≡ written (first_rounding t.rows t.columns t.denominator g) old → new ≡ written (first_rounding r c d g) old
    done old new f = rw told.sizes at f
