-- What the check of the corrections answers, and the room for the counts, say at each return what is due and what is written.
use native.Mathlib.Omega.{arith}
use Rattle.std.proofs.lemmas.Result.{err_from_is_err_and}
use Rattle.table.proofs.Totals.{small_product}
use Rattle.refusals.proofs.Dues.{refused_so, accepted_so}
use Rattle.corrections.proofs.Sheets.{refused, few_rows, few_columns, accepted, short, enough, done}
use Rattle.corrections.proofs.round.Goals as goal

pub returns-in_err-t : goal.returns-in_err-t
returns-in_err-t c =
    let p = err_from_is_err_and c.from_residual.result c.from_residual.ensures.1 in
    rw (p.1, p.2) (refused_so (refused _ _ _ _ _ c.check.ensures c.in_err-t.was))

pub overflow_mul-t : goal.overflow_mul-t
overflow_mul-t c =
    small_product (few_rows _ _ _ _ 0 c.check.ensures c.in_ok-t.was) (few_columns _ _ _ _ 0 c.check.ensures c.in_ok-t.was)

pub returns-then-out-t : goal.returns-then-out-t
returns-then-out-t c = refused_so (short _ _ _ _ _ c.check.ensures c.in_ok-t.was (omega arith))

pub write_counts-requires : goal.write_counts-requires
write_counts-requires c = record { accepted = accepted _ _ _ _ 0 c.check.ensures c.in_ok-t.was; room = c.if-out-t.false }

pub returns : goal.returns
returns c =
    accepted_so (enough _ _ _ _ _ c.check.ensures c.in_ok-t.was (omega arith))
    (done _ _ _ _ 0 c.check.ensures c.in_ok-t.was _ _ c.write_counts.ensures)
