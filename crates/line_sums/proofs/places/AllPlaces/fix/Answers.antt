use native.Mathlib.Omega.{arith}
use Rattle.line_sums.proofs.Fixes.{fix_up}
use Rattle.line_sums.proofs.places.AllPlaces.fix.Goals as goal

pub returns-then-member-eq1 : goal.returns-then-member-eq1
returns-then-member-eq1 c =
    fix_up c.args.self.now.single c.requires.row c.requires.column (omega (arith, c.member.ensures, c.if-member-eq1.true)) c.without.ensures
