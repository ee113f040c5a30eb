use Rattle.variance_text.proofs.Starts.{short_length, wrong_length, right_length}
use borrow.Author.Rules.{rules}
use Rattle.variance_text.proofs.head.plan_length.Goals as goal
use Rattle.variance_text.proofs.head.plan_length.Goals.{then-head-lt8-via-then-head-lt8, then-head-lt8-via-else-head-lt8+then-not-start_right}

pub returns-then-head-lt8 : goal.returns-then-head-lt8
returns-then-head-lt8 c =
    elim c.then-head-lt8.branch [
      | then-head-lt8-via-then-head-lt8 w ↦ short_length _ w.if-head-lt8.true
      | then-head-lt8-via-else-head-lt8+then-not-start_right w ↦ wrong_length _ _ w.start_right.ensures w.if-not-start_right.true
    ]

pub returns : goal.returns
returns c = search (rules, right_length)
