use Rattle.plan_text.proofs.Lines.{Listing}
use Prim.Native.Nat.{◌+◌}
use Rattle.plan_text.proofs.print.print_lines.Given as goal

abbrev pub invariant-loop-k : goal.invariant-loop-k
invariant-loop-k l = Listing l.plan.laid_out (l.k + 1) l.fn.out l.at l.out l.end
