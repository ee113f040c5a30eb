use borrow.Author.Rules.{rules}
use Rattle.byte_numbers.proofs.Puts.{put_two}
use Rattle.byte_numbers.proofs.write.put2.Goals as goal

pub returns : goal.returns
returns c = search (rules, put_two)
