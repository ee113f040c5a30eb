use mathlib.Core.Path.{◌≡◌}
use mathlib.Core.Bool.{true, false}
use Prim.Native.Nat.{ℕ, ◌+◌}
use native.Mathlib.Omega.{arith}
use lib.Dec.{eqb}
use borrow.Author.Rules.{rules}
use borrow.Author.Tests.{tests}
use Rattle.std.proofs.lemmas.Iterator.{cases_from_all, YieldsList-from_range}
use Rattle.form.specs.Form.{body_at, offset_of}
use Rattle.form.proofs.Layouts.{every_by}
use Rattle.form.proofs.layout.offsets_right.Goals as goal

pub returns : goal.returns
returns c =
    let right = λ (i : ℕ). eqb (offset_of c.args.plan.now i) (body_at c.args.s.rows c.args.s.columns c.args.s.arrays i) in
    every_by right (c.args.s.arrays + 1) c.all.result
    (cases_from_all _ _ _ (λ i. right i ≡ true) (λ i. right i ≡ false) c.all.ensures.ran (YieldsList-from_range 0 (c.args.s.arrays + 1) (c.args.s.arrays + 1) (cc) (omega arith))
    (λ x q k. search (rules, tests)) (λ x q k. search (rules, tests)))
