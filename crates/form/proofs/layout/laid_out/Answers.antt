use mathlib.Core.Path.{ap}
use mathlib.Core.Bool.{not}
use Rattle.form.proofs.Layouts.{short, bad_head, sizes_bounded, bad_length, contents_there, laid_by}
use borrow.Author.Rules.{rules}
use Rattle.form.proofs.layout.laid_out.Goals as goal

pub returns-then-plan-lt16 : goal.returns-then-plan-lt16
returns-then-plan-lt16 c = search (rules, short)

pub returns-then-not-head_right : goal.returns-then-not-head_right
returns-then-not-head_right c = search (rules, bad_head)

pub plan_length-requires : goal.plan_length-requires
plan_length-requires c = sizes_bounded _ _ c.head_right.ensures (ap not c.if-not-head_right.false) _ c.sizes-s.ensures

pub returns-else-plan-plan_length : goal.returns-else-plan-plan_length
returns-else-plan-plan_length c = search (rules, bad_length)

pub offsets_right-requires : goal.offsets_right-requires
offsets_right-requires c =
    contents_there _ _ c.head_right.ensures (ap not c.if-not-head_right.false) _ c.sizes-s.ensures _ c.plan_length.ensures c.if-plan-plan_length.true

pub returns-then-plan-plan_length : goal.returns-then-plan-plan_length
returns-then-plan-plan_length c = search (rules, laid_by)
