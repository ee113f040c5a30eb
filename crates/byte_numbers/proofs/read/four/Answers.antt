use borrow.Author.Rules.{rules}
use Rattle.byte_numbers.proofs.Numbers.{number_four}
use Rattle.byte_numbers.proofs.read.four.Goals as goal

pub returns : goal.returns
returns c = search (rules, number_four)
