use Rattle.bits.proofs.Bits.{spare_by}
use Rattle.bits.proofs.spare_clear.Goals as goal

pub returns : goal.returns
returns c = spare_by _ _ _ _ c.div_ceil.ensures c.bits_set.ensures
