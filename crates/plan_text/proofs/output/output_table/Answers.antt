use Rattle.plan_text.proofs.Lengths.{refusal_room}
use Rattle.plan_text.proofs.Outputs.{refusal_printed, plan_listed, listing_printed}
use borrow.Author.Rules.{rules}
use Rattle.plan_text.proofs.output.output_table.Goals as goal

pub print_refusal-requires : goal.print_refusal-requires
print_refusal-requires c = search (rules, refusal_room)

pub slice_bounds-buffer-end : goal.slice_bounds-buffer-end
slice_bounds-buffer-end c = (plan_listed c.plan.ensures (search rules) _ c.in-Ok.is).inside

pub slice_bounds-print_plan_bytes-end : goal.slice_bounds-print_plan_bytes-end
slice_bounds-print_plan_bytes-end c = (plan_listed c.plan.ensures (search rules) _ c.in-Ok.is).len

pub print_plan_bytes-requires : goal.print_plan_bytes-requires
print_plan_bytes-requires c = record { laid_out_is = (plan_listed c.plan.ensures (search rules) _ c.in-Ok.is).laid; room = c.requires }

pub returns-in-Err : goal.returns-in-Err
returns-in-Err c = refusal_printed c.plan.ensures (search rules) _ c.in-Err.is _ _ _ c.print_refusal.ensures

pub returns-in-Ok : goal.returns-in-Ok
returns-in-Ok c = listing_printed (plan_listed c.plan.ensures (search rules) _ c.in-Ok.is) _ _ _ c.print_plan_bytes.ensures
