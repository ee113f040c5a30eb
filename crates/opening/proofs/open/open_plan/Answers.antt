use mathlib.Core.Path.{ap}
use mathlib.Core.Bool.{not}
use Rattle.opening.proofs.Opening.{not_laid, not_consistent, plan_opened}
use Rattle.opening.proofs.open.open_plan.Goals as goal

pub returns-in_default : goal.returns-in_default
returns-in_default c = not_laid _ c.in_default.ensures

pub returns-then-not-consistent : goal.returns-then-not-consistent
returns-then-not-consistent c = rw (← c.in-Some.ensures) (not_consistent c.in-Some.laid_out.laid_out c.consistent.ensures (ap not c.if-not-consistent.true))

pub invariant_of-result : goal.invariant_of-result
invariant_of-result c = record { opens = plan_opened c.in-Some.laid_out.laid_out c.consistent.ensures (ap not c.if-not-consistent.false) }
