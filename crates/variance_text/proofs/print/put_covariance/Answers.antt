use Rattle.variance_text.proofs.Rows.{gap_wrote}
use borrow.Author.Rules.{rules}
use Rattle.variance_text.proofs.print.put_covariance.Goals as goal

pub returns : goal.returns
returns c = search (rules, gap_wrote)
