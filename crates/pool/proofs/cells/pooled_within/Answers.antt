use mathlib.Core.Path.{ap, ◌∙◌}
use Prim.Native.Nat.{ℕ, ◌*◌, ◌+◌}
use lib.Dec.{leb}
use borrow.Author.Rules.{rules}
use borrow.Author.Tests.{tests}
use Rattle.std.proofs.lemmas.Iterator.{YieldsList-from_slice, YieldsList-from_zip}
use Rattle.std.proofs.lemmas.Iterator.Search.{all_from_yields_List}
use Rattle.pool.proofs.Scales.{cells_tested}
use Rattle.pool.proofs.cells.pooled_within.Goals as goal

pub returns : goal.returns
returns c =
    let s = c.args.s in
    all_from_yields_List (λ p. leb (s.first * p.0 + s.second * p.1) (c.from.result * s.denominator)) c.all.new.self _ _ c.all.ensures.ran
    (YieldsList-from_zip (YieldsList-from_slice c.args.first.now cc) (YieldsList-from_slice c.args.second.now cc))
    (λ x b q k. search (rules, tests))
    ∙ cells_tested s c.args.first.now c.args.second.now _ (ap (λ (n : ℕ). n * s.denominator) c.from.ensures)
