use Rattle.form.specs.Form.{decode}
use Rattle.drawing.proofs.Drawing.{Left}
use Rattle.drawing.proofs.array_of.Given as goal

abbrev pub invariant-loop-k : goal.invariant-loop-k
invariant-loop-k l = Left (decode l.plan.plan.bytes.now).arrays l.number l.k l.left
