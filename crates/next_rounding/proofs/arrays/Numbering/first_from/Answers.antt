use mathlib.Core.Path.{sym, ◌∙◌}
use Rattle.next_rounding.proofs.Loops.{power_is, passed_more, first_found, held_is}
use Rattle.next_rounding.proofs.arrays.Numbering.first_from.Goals as goal

pub returns-then-hold : goal.returns-then-hold
returns-then-hold c =
    first_found c.loop-x.invariant c.loop-x.auto.x (rw (power_is c.args.self.now.is.small) at c.loop-x-test.true)
    (sym (held_is c.args.self.now.is _ c.loop-x-test.array_long _ c.write_array.ensures c.hold.ensures) ∙ c.if-hold.true)

pub loop-x-preserved : goal.loop-x-preserved
loop-x-preserved c =
    passed_more c.loop-x.invariant
    (sym (held_is c.args.self.now.is _ c.loop-x-test.array_long _ c.write_array.ensures c.hold.ensures) ∙ c.if-hold.false)
