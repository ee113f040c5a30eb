use mathlib.Core.Path.{sym, ◌∙◌}
use native.Mathlib.Omega.{arith}
use Rattle.std.proofs.lemmas.Result.{err_from_is_err_and}
use Rattle.walk.proofs.Calls.{is_small, next_refused, no_rounding, next_short, next_enough, found_so, refused_answer, refused_left, found_left, next_so, last_so}
use Rattle.walk.proofs.next.Goals as goal

pub returns-in_err-t : goal.returns-in_err-t
returns-in_err-t c =
    let p = err_from_is_err_and c.from_residual.result c.from_residual.ensures.1 in
    let due = next_refused _ _ _ _ _ _ c.in_err-t.ensures in
    record { answer = rw (p.1, p.2) (refused_answer _ _ _ _ _ _ due); buffer = refused_left _ _ _ _ _ _ due }

pub returns-then-not-is_rounding : goal.returns-then-not-is_rounding
returns-then-not-is_rounding c =
    let due = no_rounding _ _ _ _ c.in_ok-t.ensures.1 _ (rw c.in_ok-t.ensures.0 at c.is_rounding.ensures) c.if-not-is_rounding.true _ in
    record { answer = refused_answer _ _ _ _ _ _ due; buffer = refused_left _ _ _ _ _ _ due }

pub returns-then-counts-t : goal.returns-then-counts-t
returns-then-counts-t c =
    let due = next_short _ _ _ _ c.in_ok-t.ensures.1 _ (rw c.in_ok-t.ensures.0 at c.is_rounding.ensures) c.if-not-is_rounding.false _ (rw c.in_ok-t.ensures.0 at c.if-counts-t.true) in
    record { answer = refused_answer _ _ _ _ _ _ due; buffer = refused_left _ _ _ _ _ _ due }

pub write_next-requires : goal.write_next-requires
write_next-requires c = record {
  small = is_small _ _ _ _ c.in_ok-t.ensures.1;
  rounding = sym c.is_rounding.ensures ∙ c.if-not-is_rounding.false;
  room = omega (arith, c.in_ok-t.t.accepted.shape.cells);
}

pub returns-then-write_next : goal.returns-then-write_next
returns-then-write_next c =
    let nothing = next_enough _ _ _ _ c.in_ok-t.ensures.1 _ (rw c.in_ok-t.ensures.0 at c.is_rounding.ensures) c.if-not-is_rounding.false _ (rw c.in_ok-t.ensures.0 at c.if-counts-t.false) in
    let found = found_so _ _ _ _ c.in_ok-t.ensures.1 _ (rw c.in_ok-t.ensures.0 at c.write_next.ensures) in
    record { answer = next_so _ _ _ _ _ _ nothing found c.if-write_next.true; buffer = found_left _ _ _ _ _ _ nothing found }

pub returns : goal.returns
returns c =
    let free = next_enough _ _ _ _ c.in_ok-t.ensures.1 _ (rw c.in_ok-t.ensures.0 at c.is_rounding.ensures) c.if-not-is_rounding.false _ (rw c.in_ok-t.ensures.0 at c.if-counts-t.false) in
    let found = found_so _ _ _ _ c.in_ok-t.ensures.1 _ (rw c.in_ok-t.ensures.0 at c.write_next.ensures) in
    record { answer = last_so _ _ _ _ _ _ free found c.if-write_next.false; buffer = found_left _ _ _ _ _ _ free found }
