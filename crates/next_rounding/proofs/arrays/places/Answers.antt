use Rattle.next_rounding.proofs.Loops.{row_fits, place_fits}
use borrow.Author.Rules.{rules}
use Rattle.next_rounding.proofs.arrays.places.Goals as goal

pub overflow_mul-places : goal.overflow_mul-places
overflow_mul-places c = search (rules, row_fits)

pub overflow_add-places : goal.overflow_add-places
overflow_add-places c = search (rules, place_fits)
