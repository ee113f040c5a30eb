use borrow.Author.Rules.{rules}
use Rattle.printing.proofs.Writes.{wrote_copied}
use Rattle.printing.proofs.write.put_bytes.Goals as goal

pub returns : goal.returns
returns c = search (rules, wrote_copied)
