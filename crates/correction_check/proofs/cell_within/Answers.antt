use Rattle.std.proofs.Common.{arith}
use Rattle.std.proofs.lemmas.Int.{ints, to_z-of_z}
use Rattle.std.proofs.lemmas.Bool.Decides.{nat_tests}
use Rattle.correction_check.proofs.cell_within.Goals as goal

pub returns : goal.returns
returns c = grind (arith, ints, nat_tests, to_z-of_z)
