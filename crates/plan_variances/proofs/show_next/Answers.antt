use Rattle.variance_text.proofs.Answers.{prints_inside, prints_part}
use Rattle.plan_variances.proofs.show_next.Goals as goal

pub slice_bounds-out-end : goal.slice_bounds-out-end
slice_bounds-out-end c = prints_inside c.print_variances-printed.ensures

pub slice_bounds-write_all-end : goal.slice_bounds-write_all-end
slice_bounds-write_all-end c = prints_part c.print_variances-printed.ensures
