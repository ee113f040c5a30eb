use Rattle.weighted_arrays.specs.Plan.{cell_count}
use Rattle.form.specs.Form.{decode}
use Rattle.covariances.specs.Clauses.{Kept}
use Rattle.covariances.proofs.sums.keep_counts.Given as goal

abbrev pub invariant-loop-k : goal.invariant-loop-k
invariant-loop-k l = Kept (decode l.plan.bytes.now).arrays (cell_count (decode l.plan.bytes.now)) l.k l.array-items
