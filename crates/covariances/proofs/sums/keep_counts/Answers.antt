use Prim.Native.Nat.{◌<◌}
use native.Mathlib.Omega.{arith}
use lib.ListN.{length, length-take}
use borrow.Author.Rules.{rules}
use Rattle.form.specs.Form.{decode}
use Rattle.reading.proofs.Readings.{counts_length}
use Rattle.reading.proofs.Sizing.{arrays_are, sized_arrays, sized_few}
use Rattle.covariances.proofs.Rows.{kept_none, kept_more, kept_all}
use Rattle.covariances.proofs.sums.keep_counts.Goals as goal

pub loop-k-init : goal.loop-k-init
loop-k-init c = kept_none _ _ _

pub slice_bounds-array-items-end : goal.slice_bounds-array-items-end
slice_bounds-array-items-end c = search (rules, sized_arrays)

pub read_array-requires-clause-room : goal.read_array-requires-clause-room
read_array-requires-clause-room c = search (rules, sized_few)

pub loop-k-preserved : goal.loop-k-preserved
loop-k-preserved c =
    let laid_out = c.args.plan.now.laid_out in
    let there : c.loop-k.k < length (decode c.args.plan.now.bytes.now).arrays =
    omega (arith, arrays_are laid_out, length-take c.args.plan.now.sizes.arrays c.args.counts.now) in
    kept_more c.loop-k.invariant (omega (arith, c.loop-k.auto.array-items)) _ _ c.read_array.ensures (counts_length _ _ there)

pub returns : goal.returns
returns c = search (rules, kept_all, arrays_are)
