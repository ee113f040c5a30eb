use Rattle.drawing.proofs.Drawing.{array_counted, array_written}
use borrow.Author.Rules.{rules}
use Rattle.drawing.proofs.write_array.Goals as goal

pub read_array-requires-clause-there : goal.read_array-requires-clause-there
read_array-requires-clause-there c = search (rules, array_counted)

pub returns : goal.returns
returns c = search (rules, array_written)
