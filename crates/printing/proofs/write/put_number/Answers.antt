use borrow.Author.Rules.{rules}
use Rattle.printing.proofs.Writes.{later_wrote}
use Rattle.printing.proofs.write.put_number.Goals as goal

pub returns : goal.returns
returns c = search (rules, later_wrote)
