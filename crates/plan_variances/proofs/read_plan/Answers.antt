use borrow.Author.Rules.{rules}
use Rattle.variance_text.proofs.Readings.{has_read}
use Rattle.plan_variances.proofs.read_plan.Goals as goal

pub returns : goal.returns
returns c = search (rules, has_read)
