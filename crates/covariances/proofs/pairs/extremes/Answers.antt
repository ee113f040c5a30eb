use Rattle.covariances.proofs.Outcomes.{extremal, extremal_none}
use borrow.Author.Rules.{rules}
use Rattle.covariances.proofs.pairs.extremes.Goals as goal

pub returns-then-cells-lt2 : goal.returns-then-cells-lt2
returns-then-cells-lt2 c = extremal_none (record { is_open = c.args.plan.now.opens; cells_are = c.requires }) (search rules)

pub returns : goal.returns
returns c = extremal (record { is_open = c.args.plan.now.opens; cells_are = c.requires }) (search rules) c.all_pairs.ensures
