use Rattle.next_rounding.proofs.Found.{numbering}
use Rattle.next_rounding.proofs.arrays.Numbering.of.Goals as goal

pub invariant_of-result : goal.invariant_of-result
invariant_of-result c = record { is = numbering c.args.t.now.accepted c.of.ensures c.requires c.places.ensures }
