use Rattle.line_sums.proofs.Fills.{lacking_without}
use Rattle.line_sums.proofs.fill.Lack.take.Goals as goal

pub invariant_of-self : goal.invariant_of-self
invariant_of-self c = record { lacking = lacking_without c.args.self.now.lacking c.requires c.if-left-eq0.true c.without-self.ensures }
