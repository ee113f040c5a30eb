use Rattle.std.proofs.Common.{arith}
use Rattle.byte_numbers.specs.Bytes.{number}
use Rattle.byte_numbers.proofs.read.one.Goals as goal

pub returns : goal.returns
unfolding number
returns c = omega arith
