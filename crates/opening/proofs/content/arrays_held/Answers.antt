use mathlib.Core.Path.{ap}
use mathlib.Core.Bool.{not}
use native.Mathlib.Omega.{arith}
use Rattle.opening.proofs.ContentTests.{array_fails, arrays_pass}
use Rattle.opening.proofs.content.arrays_held.Goals as goal

pub returns-then-not-array_held : goal.returns-then-not-array_held
returns-then-not-array_held c =
    array_fails c.args.plan.now.laid_out c.loop-k-test.true c.array_held.ensures.answer (ap not c.if-not-array_held.true)

pub returns : goal.returns
returns c = arrays_pass c.args.plan.now.laid_out c.loop-k.invariant.0 c.loop-k.invariant.1 (omega arith) (omega arith)
