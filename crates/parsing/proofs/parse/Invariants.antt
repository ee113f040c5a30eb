use Rattle.parsing.proofs.Scans.{Scanned}
use Rattle.parsing.proofs.parse.Given as goal

abbrev pub invariant-loop-b : goal.invariant-loop-b
invariant-loop-b l = Scanned l.text l.b-index l.reading l.count l.numbers
