use Rattle.table.proofs.Checks.{bad_size, bad_denominator, bad_count, good}
use mathlib.Core.Path.{ap}
use mathlib.Core.Bool.{not}
use borrow.Author.Rules.{rules}
use Rattle.table.proofs.check.sizes.Goals as goal

pub returns-then-not-size_within : goal.returns-then-not-size_within
returns-then-not-size_within c = search (rules, bad_size)

pub returns-then-not-denominator_within : goal.returns-then-not-denominator_within
returns-then-not-denominator_within c = search (rules, bad_denominator)

pub returns-then-not-count_is : goal.returns-then-not-count_is
returns-then-not-count_is c = search (rules, bad_count)

pub returns : goal.returns
returns c =
    rw c.from.ensures
    (good _ _ _ _ _
    c.size_within.ensures (ap not c.if-not-size_within.false) _
    c.denominator_within.ensures (ap not c.if-not-denominator_within.false) _
    c.count_is.ensures (ap not c.if-not-count_is.false))
