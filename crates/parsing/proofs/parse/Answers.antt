use borrow.Author.Rules.{rules}
use native.Mathlib.Omega.{arith}
use Rattle.parsing.proofs.Scans.{scanned_none, scanned_same, too_long, too_large, other_byte, too_few, accepted_text, scanned_digit, scanned_gap}
use Rattle.parsing.proofs.parse.Goals as goal
use Rattle.parsing.proofs.parse.Goals.{in-32, in-48-to-57+in_ok-numbers-in-48-to-57}

pub returns-then-text-gt-MAX_TEXT : goal.returns-then-text-gt-MAX_TEXT
returns-then-text-gt-MAX_TEXT c = search (rules, too_long)

pub loop-b-init : goal.loop-b-init
loop-b-init c = search (rules, scanned_none)

pub returns-in_default : goal.returns-in_default
returns-in_default c = other_byte c.loop-b.invariant c.loop-b-test.true (omega arith) (search rules)

pub returns-in_default-2 : goal.returns-in_default-2
returns-in_default-2 c = other_byte c.loop-b.invariant c.loop-b-test.true (omega arith) (search rules)

pub returns-in_err-numbers-in-48-to-57 : goal.returns-in_err-numbers-in-48-to-57
returns-in_err-numbers-in-48-to-57 c =
    rw c.from_residual.ensures (too_large c.loop-b.invariant c.loop-b-test.true (omega arith) (omega arith) c.in_err-numbers-in-48-to-57.ensures)

pub loop-b-preserved : goal.loop-b-preserved
loop-b-preserved c =
    let w = c.loop-b.invariant in
    let l = c.loop-b-test.true in
    elim c.match-b.branch [
      | in-32 v ↦ scanned_same (scanned_gap w l v.in-32.is _ v.from.ensures) v.numbers-is v.count-is v.reading-is
      | in-48-to-57+in_ok-numbers-in-48-to-57 v ↦
          let e = v.in_ok-numbers-in-48-to-57.ensures in
          scanned_same (scanned_digit w l (omega arith) (omega arith) _ e.0 e.1) v.numbers-is v.count-is v.reading-is
    ]

pub returns-then-count-lt3 : goal.returns-then-count-lt3
returns-then-count-lt3 c = search (rules, too_few)

pub returns : goal.returns
returns c = search (rules, accepted_text)
