use Rattle.base.proofs.Every.{Passed}
use Rattle.weighted_arrays.specs.Plan.{cell_count}
use Rattle.form.specs.Form.{decode}
use Rattle.weighted_arrays.specs.Clauses.{weight_at, SumsTo}
use Rattle.opening.proofs.ContentTests.{held_at}
use Rattle.opening.proofs.content.arrays_held.Given as goal

abbrev pub invariant-loop-k : goal.invariant-loop-k
invariant-loop-k l = Passed (held_at l.plan.bytes.now) l.k × SumsTo (weight_at (decode l.plan.bytes.now).arrays) (decode l.plan.bytes.now).arrays (cell_count (decode l.plan.bytes.now)) l.k l.sums
