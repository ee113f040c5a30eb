-- Two tables that are pooled, and the pool then planned. Assumes nothing.
use Rattle.std.specs.Prelude.{None, Result, ⊤}
use mathlib.Core.Path.{◌≡◌, refl, ap, ◌∙◌}
use mathlib.Core.Bool.{◌||◌}
use mathlib.Core.List.{List, [], ◌∷◌}
use Prim.Native.Nat.{ℕ, ◌*◌, ◌≤◌}
use native.Mathlib.Omega.{arith}
use lib.ListN.{length}
use lib.Dec.{ltb}
use borrow.Author.Tests.{le-ltb}
use Rattle.base.proofs.Buffers.{written_at, written_front}
use Rattle.refusals.specs.declared.Refusal.TheVariants.{Buffer}
use Rattle.refusals.specs.Due.{refuse, due, answer_of, after, Answers}
use Rattle.refusals.proofs.Dues.{due_second}
use Rattle.table.specs.Clauses.{IsTable}
use Rattle.table.proofs.Checks.{passed_all}
use Rattle.multiples.specs.Multiple.{least_multiple}
use Rattle.plan.proofs.Planning as plan
use Rattle.pool.specs.Pool.{pooled_cells, pooling_tests, pooling_refusal, pool_refusal, Lent, pooled_into}
use Rattle.pool.specs.Promises.{Pools}
use Rattle.pool.proofs.Pooling as pool
use Rattle.demands.specs.Pools.{multiple_in, cells_in, ServedPool}
use Rattle.refusals.specs.declared.Refusal.{Refusal}

module _ (r c d : ℕ) (g : List ℕ) (e : ℕ) (h : List ℕ) (old new : Lent) (a : Result ⊤ Refusal) (free : pooling_refusal r c d g e h ≡ None)
    (number : 1 ≤ length old.denominator) (room : r * c ≤ length old.cells)
    (answers : Answers (pool_refusal r c d g e h (length old.denominator) (length old.cells)) (pooled_into d g e h old) old a new) where
  none_due : pool_refusal r c d g e h (length old.denominator) (length old.cells) ≡ None
  unfolding pool_refusal pooling_refusal due
  none_due =
      due_second (pooling_tests r c d g e h) (refuse Buffer (ltb (length old.denominator) 1 || ltb (length old.cells) (r * c)) ∷ []) free
      ∙ simp (le-ltb _ _ number, le-ltb _ _ room)

  pools : Pools r c d g e h
  pools = pool.promised r c d g e h free

  table : IsTable r c (least_multiple d e) (pooled_cells d g e h)
  table = passed_all r c _ _ pools.accepted

  left : new ≡ pooled_into d g e h old
  unfolding after
  left = answers.left ∙ rw none_due refl

  multiple_in_lem : multiple_in new ≡ least_multiple d e
  multiple_in_lem = ap multiple_in left ∙ written_at (least_multiple d e ∷ []) old.denominator refl 0 (omega arith)

  cells_in_lem : cells_in r c new ≡ pooled_cells d g e h
  cells_in_lem = ap (cells_in r c) left ∙ written_front (pooled_cells d g e h) old.cells table.shape.cells

  pub served_pool : ServedPool r c d g e h a new
  unfolding answer_of
  served_pool = record {
    returned = answers.answer ∙ rw none_due refl;
    multiple = rw multiple_in_lem pools.multiple;
    exact = λ s. rw (multiple_in_lem, cells_in_lem) (pools.exact s);
    accepted = rw (multiple_in_lem, cells_in_lem) pools.accepted;
    planned = λ s. rw (multiple_in_lem, cells_in_lem, (plan.promised table).sums s) (pools.exact s);
  }
