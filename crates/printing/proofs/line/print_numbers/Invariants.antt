use lib.ListN.{length}
use Rattle.printing.specs.Lines.{spaced}
use Rattle.printing.proofs.Writes.{Writing}
use Rattle.printing.proofs.Lines.{part_of}
use Rattle.printing.proofs.line.print_numbers.Given as goal

abbrev pub invariant-loop-i : goal.invariant-loop-i
invariant-loop-i l = Writing (part_of l.numbers) (length l.numbers) l.i (spaced l.numbers) l.initial.out l.at l.out l.end
