use mathlib.Core.Path.{◌∙◌}
use borrow.Author.Tests.{ne_eqb}
use Rattle.is_rounding.proofs.Rounded.{other_length, held_rounding}
use Rattle.is_rounding.proofs.is_rounding.Goals as goal

pub returns-then-counts-t : goal.returns-then-counts-t
returns-then-counts-t c = held_rounding c.args.t.now.accepted _ c.if-counts-t.true c.of.ensures c.hold.ensures

pub returns-else-counts-t : goal.returns-else-counts-t
returns-else-counts-t c = ne_eqb _ _ c.if-counts-t.false ∙ other_length c.args.t.now.accepted _ c.if-counts-t.false
