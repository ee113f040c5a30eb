use borrow.Author.Rules.{rules}
use Rattle.base.proofs.Filling.{front_all}
use Rattle.campaign_draw.proofs.add_counts.Goals as goal

pub returns : goal.returns
returns c = search (rules, front_all)
