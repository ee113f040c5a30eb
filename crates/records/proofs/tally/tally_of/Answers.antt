use borrow.Author.Rules.{rules}
use Rattle.reading.proofs.Sizing.{sized_arrays}
use Rattle.records.proofs.Fitting.{part_end, part_at}
use Rattle.records.proofs.Tallying.{added_none, array_addable, added_more, added_all}
use Rattle.records.proofs.tally.tally_of.Goals as goal

pub shared_ref_as_front-factor-items : goal.shared_ref_as_front-factor-items
shared_ref_as_front-factor-items c = search (rules, sized_arrays)

pub loop-k-init : goal.loop-k-init
loop-k-init c = search (rules, added_none)

pub add_array-requires : goal.add_array-requires
add_array-requires c = array_addable c.args.plan.now.laid_out c.loop-k.invariant (part_end c.args.plan.now.laid_out c.args.taken.now c.told-taken) c.loop-k-test.true

pub loop-k-preserved : goal.loop-k-preserved
loop-k-preserved c =
    added_more c.args.plan.now.laid_out c.loop-k.invariant (part_end c.args.plan.now.laid_out c.args.taken.now c.told-taken) c.loop-k-test.true (part_at c.args.plan.now.laid_out c.args.taken.now c.told-taken c.loop-k-test.true) c.add_array.ensures

pub returns : goal.returns
returns c = added_all c.args.plan.now.laid_out c.loop-k.invariant (part_end c.args.plan.now.laid_out c.args.taken.now c.told-taken) c.loop-k.auto.k-end c.loop-k-test.false
