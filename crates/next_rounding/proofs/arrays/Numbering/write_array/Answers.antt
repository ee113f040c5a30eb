use native.Mathlib.Omega.{arith}
use Rattle.next_rounding.proofs.Loops.{few_cells, next_small, next_low, all_places, store_inside, store_more, stored_all}
use Rattle.next_rounding.proofs.arrays.Numbering.write_array.Goals as goal

pub offset_bounds-self-p : goal.offset_bounds-self-p
offset_bounds-self-p c = record { fits = omega (arith, next_small c.args.self.now.is c.loop-i-test.true) }

pub bounds-self-p : goal.bounds-self-p
bounds-self-p c = omega (arith, next_small c.args.self.now.is c.loop-i-test.true)

pub count-requires : goal.count-requires
count-requires c = record { small = next_low c.args.self.now.is c.loop-i-test.true; below = omega (arith, few_cells c.args.self.now.is.small) }

pub offset_bounds-counts-p : goal.offset_bounds-counts-p
offset_bounds-counts-p c = record { fits = omega (arith, next_small c.args.self.now.is c.loop-i-test.true) }

pub bounds-counts-p : goal.bounds-counts-p
bounds-counts-p c = store_inside c.args.self.now.is c.requires c.loop-i-test.true c.loop-i.invariant

pub loop-i-preserved : goal.loop-i-preserved
loop-i-preserved c = store_more c.args.self.now.is c.requires c.loop-i-test.true c.loop-i.invariant c.count.ensures

pub returns : goal.returns
returns c = stored_all c.loop-i.invariant c.args.self.now.is.small (omega (arith, all_places c.args.self.now.is)) c.requires
