use borrow.Author.Rules.{rules}
use Rattle.byte_numbers.proofs.Numbers.{number_two}
use Rattle.byte_numbers.proofs.read.two.Goals as goal

pub returns : goal.returns
returns c = search (rules, number_two)
