use Rattle.is_rounding.proofs.EntryLines.{line_dividable, whole_fits, up_sum, up_fits}
use borrow.Author.Rules.{rules}
use Rattle.is_rounding.proofs.EntryBounds.add_lines.Goals as goal

pub divide-parts-requires : goal.divide-parts-requires
divide-parts-requires c = search (rules, line_dividable)

pub overflow_cast-self : goal.overflow_cast-self
overflow_cast-self c = search (rules, whole_fits)

pub overflow_add-self-in-loop-l : goal.overflow_add-self-in-loop-l
overflow_add-self-in-loop-l c = search (rules, up_sum)

pub overflow_cast-self-in-loop-l : goal.overflow_cast-self-in-loop-l
overflow_cast-self-in-loop-l c = search (rules, up_fits)
