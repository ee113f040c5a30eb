use Rattle.bits.specs.Bits.{bit_of}
use Rattle.bits.proofs.bit.Goals as goal

pub returns : goal.returns
unfolding bit_of
returns c = rw c.from.ensures
