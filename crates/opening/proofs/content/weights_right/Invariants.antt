use Rattle.form.specs.Form.{decode}
use Rattle.opening.proofs.ContentTests.{Weighed}
use Rattle.opening.proofs.content.weights_right.Given as goal

abbrev pub invariant-loop-k : goal.invariant-loop-k
invariant-loop-k l = Weighed (decode l.plan.bytes.now).arrays l.k l.sum
