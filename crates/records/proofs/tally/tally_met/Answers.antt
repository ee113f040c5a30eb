use Prim.Native.Nat.{ℕ, ◌+◌, ◌*◌, ◌<◌, ◌≤◌}
use mathlib.Core.Path.{◌∙◌}
use native.Mathlib.Omega.{arith}
use borrow.Author.Rules.{rules}
use borrow.Author.Tests.{tests}
use lib.Dec.{eqb}
use Rattle.std.proofs.lemmas.Iterator.{YieldsList-from_slice, YieldsList-from_zip}
use Rattle.std.proofs.lemmas.Iterator.Search.{all_from_yields_List}
use Rattle.std.proofs.lemmas.Iterator.Adapters.{serves_from_places}
use Rattle.weighted_arrays.specs.Clauses.{max_product}
use Rattle.records.proofs.Tallying.{met_is, sum_small, times_fits, sum_fits}
use Rattle.records.proofs.tally.tally_met.Goals as goal

pub all-requires-clause-callable : goal.all-requires-clause-callable
all-requires-clause-callable c =
    serves_from_places
    (YieldsList-from_zip (YieldsList-from_zip (YieldsList-from_slice c.args.tally.now cc) (YieldsList-from_slice c.args.cells.now cc)) (YieldsList-from_slice c.args.sums.now cc))
    (λ x q e. search rules)
    (λ x k h e.
    let t : c.from-times.result < 65536 = omega arith in
    let z : x.1.now ≤ 170 * max_product = sum_small c.requires k h e in
    search (rules, times_fits, sum_fits))

pub returns : goal.returns
returns c =
    all_from_yields_List (λ (x : (ℕ × ℕ) × ℕ). eqb (c.args.rounds * x.0.1 + x.1) x.0.0) c.all.new.self _ c.all.result c.all.ensures.ran
    (YieldsList-from_zip (YieldsList-from_zip (YieldsList-from_slice c.args.tally.now cc) (YieldsList-from_slice c.args.cells.now cc)) (YieldsList-from_slice c.args.sums.now cc))
    (λ x b q k. search (rules, tests))
    ∙ met_is c.requires c.args.rounds
