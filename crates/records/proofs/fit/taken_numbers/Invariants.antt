use Rattle.records.proofs.Fitting.{Along}
use Rattle.records.proofs.fit.taken_numbers.Given as goal

abbrev pub invariant-loop-k : goal.invariant-loop-k
invariant-loop-k l = Along l.plan.bytes.now l.bits l.taken l.k l.at
