use mathlib.Core.Path.{◌∙◌}
use Prim.Native.Nat.{◌*◌}
use native.Mathlib.Omega.{arith}
use Rattle.byte_numbers.proofs.Numbers.{part_number_lem}
use Rattle.view.proofs.Finds.{no_entry, no_cell, beyond, count_stands}
use Rattle.view.proofs.find.find_count.Goals as goal

pub returns-then-not-has_entry : goal.returns-then-not-has_entry
returns-then-not-has_entry c = no_entry _ _ _ c.if-not-has_entry.ensures

pub returns-then-i : goal.returns-then-i
returns-then-i c = no_cell _ _ _ c.if-i.true

pub returns-in_err-body : goal.returns-in_err-body
returns-in_err-body c = rw c.from_residual.ensures (beyond _ _ _ (omega (arith, c.in_err-body.ensures.lookup.0)))

pub returns-then-body-i : goal.returns-then-body-i
returns-then-body-i c = beyond _ _ _ (omega (arith, c.in_ok-body.ensures.lookup.0))

pub returns : goal.returns
returns c =
    let l = c.in_ok-body.ensures.lookup.0 in
    count_stands _ _ _ c.if-not-has_entry.ensures c.if-i.false (omega (arith, l)) _
    (part_number_lem _ _ _ c.offset.ensures 2 (2 * c.args.i) _ (c.from.ensures ∙ (rw l.2 at c.two.ensures)))
