use mathlib.Core.Path.{◌∙◌}
use Prim.Native.Nat.{ℕ}
use native.Mathlib.Omega.{arith}
use lib.Dec.{eqb}
use borrow.Author.Rules.{rules}
use borrow.Author.Tests.{tests}
use Rattle.std.proofs.lemmas.Iterator.{YieldsList-from_slice, YieldsList-from_zip}
use Rattle.std.proofs.lemmas.Iterator.Search.{all_from_yields_List}
use Rattle.base.proofs.StdLists.{every_zipped}
use Rattle.weighted_arrays.specs.Clauses.{cells_met}
use Rattle.weighted_arrays.proofs.cells_met.Goals as goal

pub returns : goal.returns
unfolding cells_met
returns c =
    let cells = c.args.cells.now in
    let sums = c.args.sums.now in
    all_from_yields_List (λ p. eqb p.1 p.0) c.all.new.self _ _ c.all.ensures.ran
    (YieldsList-from_zip (YieldsList-from_slice cells cc) (YieldsList-from_slice sums cc))
    (λ x b q k. search (rules, tests))
    ∙ every_zipped (λ (p : ℕ × ℕ). eqb p.1 p.0) cells sums (0, 0) (omega arith)
