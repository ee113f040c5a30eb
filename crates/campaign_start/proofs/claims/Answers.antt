use Rattle.campaign_start.proofs.Examples.{starts_hold}
use Rattle.campaign_start.proofs.claims.Goals as goal

pub returns : goal.returns
returns c = starts_hold
