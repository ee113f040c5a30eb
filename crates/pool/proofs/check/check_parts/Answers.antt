-- The number of an accepted table's cells fits, and at each return the lower of what is due to either table is due to both.
use borrow.Author.Rules.{rules}
use Rattle.pool.proofs.Checking.{both_refused, first_refused, second_refused, product_fits, both_accepted}
use Rattle.pool.proofs.check.check_parts.Goals as goal

pub overflow_mul-result : goal.overflow_mul-result
overflow_mul-result c = product_fits _ _ _ _ c.check-one.ensures c.in-Ok-Ok.is-0

pub returns-in-Ok-Ok : goal.returns-in-Ok-Ok
returns-in-Ok-Ok c = search (rules, both_accepted)

pub returns-in-Ok-Err : goal.returns-in-Ok-Err
returns-in-Ok-Err c = search (rules, second_refused)

pub returns-in-Err-Ok : goal.returns-in-Err-Ok
returns-in-Err-Ok c = search (rules, first_refused)

pub returns-in-Err-Err : goal.returns-in-Err-Err
returns-in-Err-Err c = search (rules, both_refused)
