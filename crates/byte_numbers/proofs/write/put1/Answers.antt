use Rattle.byte_numbers.proofs.Puts.{put_byte}
use borrow.Author.Rules.{rules}
use Rattle.byte_numbers.proofs.write.put1.Goals as goal

pub returns : goal.returns
returns c = search (rules, put_byte)
