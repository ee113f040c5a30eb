use Rattle.std.proofs.Common.{rules}
use Rattle.bits.proofs.Bits.{set_fits}
use Rattle.bits.proofs.set_bit.Goals as goal

pub overflow_add-bits : goal.overflow_add-bits
overflow_add-bits c = search (rules, set_fits)
