use mathlib.Core.Path.{subst}
use Rattle.plan.specs.Call.{Apart}
use Rattle.plan.proofs.PlanCalls.{number_apart}
use Rattle.c_tables.proofs.lufodimi_plan.Goals as goal

pub returns-clause-apart : goal.returns-clause-apart
returns-clause-apart c = let r = c.plan-planned.ensures in subst Apart r.answer (number_apart r)
