use Rattle.table.proofs.Tables.{taken}
use Rattle.table.proofs.check.accept.Goals as goal

pub invariant_of-result : goal.invariant_of-result
invariant_of-result c = let u = taken _ _ _ _ c.check.ensures _ c.in_ok-sizes.was in record { accepted = rw u.sizes u.table }
