use Rattle.plan_text.proofs.Examples.{printed}
use Rattle.plan_text.proofs.Lengths.{listing_length}
use Rattle.plan_text.proofs.claims.Goals as goal

pub returns-clause-longest : goal.returns-clause-longest
returns-clause-longest c = (λ b bytes laid. listing_length b laid bytes)

pub returns-clause-printed : goal.returns-clause-printed
returns-clause-printed c = printed
