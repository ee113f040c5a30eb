use borrow.Author.Rules.{rules}
use Rattle.byte_numbers.proofs.Puts.{put_four}
use Rattle.byte_numbers.proofs.write.put4.Goals as goal

pub returns : goal.returns
returns c = search (rules, put_four)
