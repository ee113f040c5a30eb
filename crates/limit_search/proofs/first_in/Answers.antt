use mathlib.Core.Bool.{true, false}
use mathlib.Core.Path.{◌≡◌}
use Prim.Native.Nat.{ℕ}
use lib.Dec.{eqb}
use borrow.Author.Rules.{rules}
use borrow.Author.Tests.{tests}
use Rattle.std.proofs.lemmas.Iterator.{YieldsList-from_slice, IsFirst-from_position}
use Rattle.limit_search.specs.Clauses.{block}
use Rattle.limit_search.proofs.Searching.{row_none, row_found, found_nowhere}
use Rattle.limit_search.proofs.first_in.Goals as goal

pub loop-i-preserved : goal.loop-i-preserved
loop-i-preserved c =
    let a = c.args in
    row_none a.l.now a.x (block a.top a.left a.rows a.columns) c.requires c.told-l c.loop-i.i c.loop-i-test.true c.loop-i.invariant
    (IsFirst-from_position _ _ _ (λ (y : ℕ). eqb y a.x ≡ true) (λ (y : ℕ). eqb y a.x ≡ false) c.position.ensures.ran (YieldsList-from_slice _ cc)
    (λ y q k. search (rules, tests)) (λ y q k. search (rules, tests)))
    c.in_default.is

pub returns : goal.returns
returns c = search (rules, found_nowhere)

pub returns-in-Some : goal.returns-in-Some
returns-in-Some c =
    let a = c.args in
    row_found a.l.now a.x (block a.top a.left a.rows a.columns) c.requires c.told-l c.loop-i.i c.loop-i-test.true c.loop-i.invariant
    (IsFirst-from_position _ _ _ (λ (y : ℕ). eqb y a.x ≡ true) (λ (y : ℕ). eqb y a.x ≡ false) c.position.ensures.ran (YieldsList-from_slice _ cc)
    (λ y q k. search (rules, tests)) (λ y q k. search (rules, tests)))
    c.in-Some.is
