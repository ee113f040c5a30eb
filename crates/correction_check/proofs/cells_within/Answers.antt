use mathlib.Core.Path.{◌∙◌}
use Prim.Native.Nat.{◌*◌}
use borrow.Author.Rules.{rules}
use borrow.Author.Tests.{tests}
use Rattle.std.proofs.lemmas.Iterator.{YieldsList-from_slice}
use Rattle.std.proofs.lemmas.Iterator.Search.{all_from_yields_List}
use Rattle.base.proofs.StdLists.{all_listed}
use Rattle.correction_check.specs.Check.{cell_within}
use Rattle.correction_check.proofs.cells_within.Goals as goal

pub returns : goal.returns
returns c =
    all_from_yields_List (cell_within (1000 * c.args.denominator)) _ _ _ c.all.ensures.ran (YieldsList-from_slice c.args.cells.now cc) (λ x b q k. search (rules, tests))
    ∙ all_listed _ c.args.cells.now
