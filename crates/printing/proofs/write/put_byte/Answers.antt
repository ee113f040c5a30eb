use Rattle.printing.proofs.Writes.{wrote_byte}
use borrow.Author.Rules.{rules}
use Rattle.printing.proofs.write.put_byte.Goals as goal

pub returns : goal.returns
returns c = search (rules, wrote_byte)
