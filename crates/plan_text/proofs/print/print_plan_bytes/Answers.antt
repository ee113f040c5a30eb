use Rattle.reading.proofs.Readings.{laid_long}
use Rattle.plan_text.proofs.Lengths.{listing_room}
use borrow.Author.Rules.{rules}
use Rattle.plan_text.proofs.print.print_plan_bytes.Goals as goal

pub sizes-sizes-requires : goal.sizes-sizes-requires
sizes-sizes-requires c = search (rules, laid_long)

pub invariant_of-print_lines : goal.invariant_of-print_lines
invariant_of-print_lines c = record { laid_out = record { laid_out_is = c.requires.laid_out_is; sizes = c.sizes-sizes.ensures } }

pub print_lines-requires : goal.print_lines-requires
print_lines-requires c = listing_room _ c.requires.laid_out_is (λ k. (c.type_inv.bytes k).fits) _ _ c.requires.room
