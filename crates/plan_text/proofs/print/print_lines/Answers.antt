use Rattle.plan_text.proofs.Lines.{head_room, head_wrote, line_room, line_wrote, listing_wrote}
use Rattle.plan_text.proofs.print.print_lines.Goals as goal

pub print_head-end-requires : goal.print_head-end-requires
print_head-end-requires c = head_room c.args.plan.now.laid_out c.requires

pub loop-k-init : goal.loop-k-init
loop-k-init c = head_wrote c.args.plan.now.laid_out c.requires c.print_head-end.ensures

pub print_array-end-requires-clause-room : goal.print_array-end-requires-clause-room
print_array-end-requires-clause-room c = line_room c.args.plan.now.laid_out c.loop-k.invariant c.loop-k-test.true

pub loop-k-preserved : goal.loop-k-preserved
loop-k-preserved c = line_wrote c.args.plan.now.laid_out c.loop-k.invariant c.loop-k-test.true c.print_array-end.ensures

pub returns : goal.returns
returns c = listing_wrote c.args.plan.now.laid_out c.loop-k.invariant c.loop-k-test.false
