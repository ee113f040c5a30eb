use Rattle.campaign_draw.proofs.Examples.{draws_hold}
use Rattle.campaign_draw.proofs.claims.Goals as goal

pub returns : goal.returns
returns c = draws_hold
