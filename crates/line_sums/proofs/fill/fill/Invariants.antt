use Rattle.line_sums.specs.Clauses.{FilledBy}
use Rattle.line_sums.proofs.Fills.{rows_from}
use Rattle.line_sums.proofs.fill.fill.Given as goal

abbrev pub invariant-loop-row : goal.invariant-loop-row
invariant-loop-row l = FilledBy l.initial.free l.initial.lack.left l.free l.lack.left (rows_from l.more l.row)
