use Rattle.form.specs.Form.{decode}
use Rattle.weighted_arrays.specs.Clauses.{SumsTo}
use Rattle.covariances.specs.Clauses.{factors}
use Rattle.covariances.proofs.sums.row_sums.Given as goal

abbrev pub invariant-loop-k : goal.invariant-loop-k
invariant-loop-k l = SumsTo (factors (decode l.plan.plan.bytes.now).arrays l.a) (decode l.plan.plan.bytes.now).arrays l.a l.k l.sums
