use Rattle.std.proofs.lemmas.Result.{err_from_is_err_and}
use native.Mathlib.Omega.{arith}
use Rattle.campaign_start.proofs.Starting.{bytes_are, not_open, short_bits, short_tally, long_enough}
use Rattle.opening.proofs.Opening.{sizes_product}
use Rattle.campaign_start.proofs.room.open_for.Goals.{then-bits-div_ceil-via-then-bits-div_ceil, then-bits-div_ceil-via-else-bits-div_ceil+then-tally-s}
use Rattle.campaign_start.proofs.room.open_for.Goals as goal

pub returns-in_err-p : goal.returns-in_err-p
returns-in_err-p c =
    let p = err_from_is_err_and c.from_residual.result c.from_residual.ensures.1 in
    rw (p.1, p.2) (not_open _ _ c.in_err-p.ensures)

pub overflow_mul-s : goal.overflow_mul-s
overflow_mul-s c = sizes_product _ _ c.in_ok-p.p.opens

pub returns-then-bits-div_ceil : goal.returns-then-bits-div_ceil
returns-then-bits-div_ceil c =
    rw (← c.in_ok-p.ensures)
    (elim c.then-bits-div_ceil.branch [
      | then-bits-div_ceil-via-then-bits-div_ceil w ↦ short_bits _ _ c.in_ok-p.p.opens (omega (arith, c.div_ceil.ensures, bytes_are c.in_ok-p.p.plan.sizes.denominator, w.if-bits-div_ceil.true))
      | then-bits-div_ceil-via-else-bits-div_ceil+then-tally-s w ↦ short_tally _ _ c.in_ok-p.p.opens (omega (arith, c.div_ceil.ensures, bytes_are c.in_ok-p.p.plan.sizes.denominator, w.if-bits-div_ceil.false)) w.if-tally-s.true
    ])

pub returns : goal.returns
returns c = (c.in_ok-p.ensures, rw (← c.in_ok-p.ensures) (long_enough _ _ c.in_ok-p.p.opens (omega (arith, c.div_ceil.ensures, bytes_are c.in_ok-p.p.plan.sizes.denominator)) c.if-tally-s.false))
