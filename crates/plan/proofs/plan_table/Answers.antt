use Rattle.plan.proofs.PlanCalls.{length_ready, length_fits, too_short, writable, long_enough}
use borrow.Author.Rules.{rules}
use Rattle.plan.proofs.plan_table.Goals as goal

pub plan_length-length-requires : goal.plan_length-length-requires
plan_length-length-requires c = search (rules, length_ready)

pub returns-then-plan-length : goal.returns-then-plan-length
returns-then-plan-length c = search (rules, too_short)

pub write-requires : goal.write-requires
write-requires c = writable c.gather-arrays.ensures c.plan_length-length.ensures c.if-plan-length.false

pub overflow_cast-result : goal.overflow_cast-result
overflow_cast-result c = search (rules, length_fits)

pub returns : goal.returns
returns c = search (rules, long_enough)
