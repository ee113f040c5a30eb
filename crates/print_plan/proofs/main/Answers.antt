use borrow.Author.Rules.{rules}
use Rattle.printing.proofs.Writes.{wrote_inside, wrote_part}
use Rattle.print_plan.proofs.main.Goals as goal

pub slice_bounds-out-end : goal.slice_bounds-out-end
slice_bounds-out-end c = search (rules, wrote_inside)

pub slice_bounds-write_all-end : goal.slice_bounds-write_all-end
slice_bounds-write_all-end c = search (rules, wrote_part)
