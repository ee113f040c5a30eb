-- What an accepted table of corrections is. Assumes nothing.
use Rattle.std.specs.Prelude.{None}
use mathlib.Core.Path.{◌≡◌}
use mathlib.Core.Bool.{true}
use mathlib.Core.List.{List}
use Prim.Native.Nat.{ℕ}
use lib.IntN.{ℤ}
use lib.ListN.{length}
use Rattle.refusals.specs.declared.Refusal.TheVariants.{LargeCell}
use Rattle.refusals.proofs.Dues.{first_none}
use Rattle.table.specs.Check.{size_tests}
use Rattle.table.proofs.Checks.{Sized, passed_sizes, last_passed}
use Rattle.correction_check.specs.Check.{cells_within, table_refusal}

module _ (r c d : ℕ) (g : List ℤ) (a : table_refusal r c d g ≡ None) where
  pub accepted_sizes : Sized r c d (length g)
  unfolding table_refusal
  accepted_sizes = passed_sizes r c d (length g) (first_none (size_tests r c d (length g)) _ a)

  pub accepted_cells : cells_within d g ≡ true
  unfolding table_refusal
  accepted_cells = last_passed (size_tests r c d (length g)) LargeCell (cells_within d g) a
