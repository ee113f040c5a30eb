use Rattle.reading.proofs.Bodies.{array_next, array_entry, weight_read}
use Rattle.reading.proofs.LaidOut.weight.Goals as goal

pub overflow_add-k : goal.overflow_add-k
overflow_add-k c = array_next c.args.self.now.laid_out c.requires

pub amount-requires : goal.amount-requires
amount-requires c = array_entry c.args.self.now.laid_out c.requires

pub returns : goal.returns
returns c = weight_read c.args.self.now.laid_out c.requires c.amount.ensures
