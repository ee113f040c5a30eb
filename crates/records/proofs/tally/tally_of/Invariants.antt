use lib.ListN.{get_or}
use Rattle.weighted_arrays.specs.Plan.{cell_count}
use Rattle.form.specs.Form.{decode}
use Rattle.weighted_arrays.specs.Clauses.{SumsTo}
use Rattle.records.proofs.tally.tally_of.Given as goal

abbrev pub invariant-loop-k : goal.invariant-loop-k
invariant-loop-k l = SumsTo (λ j. get_or l.taken j 0) (decode l.plan.bytes.now).arrays (cell_count (decode l.plan.bytes.now)) l.k l.sums
