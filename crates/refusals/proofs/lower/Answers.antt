use Rattle.std.proofs.Common.{arith, rules}
use Rattle.std.proofs.lemmas.Bool.Decides.{nat_tests}
use Rattle.std.proofs.lemmas.Fn.{always_returns_same}
use Rattle.refusals.specs.Numbers.{number_of}
use Rattle.refusals.proofs.lower.Goals as goal

pub returns : goal.returns
returns c =
    let least = c.min_by_key.ensures number_of (always_returns_same _ _ _ (λ x r f k. search rules)) in
    grind (arith, nat_tests)
