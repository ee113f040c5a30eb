use native.Mathlib.Omega.{arith}
use Rattle.next_rounding.proofs.Loops.{next_few, next_small, value_none, double_fits, all_places, read_inside, not_below, number_fits, number_more, number_all}
use Rattle.next_rounding.proofs.arrays.Numbering.number.Goals as goal

pub loop-p-init : goal.loop-p-init
loop-p-init c = value_none _

pub overflow_mul-x : goal.overflow_mul-x
overflow_mul-x c = double_fits c.loop-p.invariant (next_few c.args.self.now.is c.loop-p-test.true)

pub offset_bounds-array-p : goal.offset_bounds-array-p
offset_bounds-array-p c = record { fits = omega (arith, next_small c.args.self.now.is c.loop-p-test.true) }

pub bounds-array-p : goal.bounds-array-p
bounds-array-p c = read_inside c.args.self.now.is c.requires c.loop-p-test.true

pub offset_bounds-self-p : goal.offset_bounds-self-p
offset_bounds-self-p c = record { fits = omega (arith, next_small c.args.self.now.is c.loop-p-test.true) }

pub bounds-self-p : goal.bounds-self-p
bounds-self-p c = omega (arith, next_small c.args.self.now.is c.loop-p-test.true)

pub overflow_sub-x : goal.overflow_sub-x
overflow_sub-x c = not_below c.args.self.now.is c.requires c.loop-p-test.true c.from.ensures

pub overflow_add-x : goal.overflow_add-x
overflow_add-x c = number_fits c.args.self.now.is c.requires c.loop-p-test.true c.from.ensures c.loop-p.invariant

pub loop-p-preserved : goal.loop-p-preserved
loop-p-preserved c = number_more c.args.self.now.is c.requires c.loop-p-test.true c.from.ensures c.loop-p.invariant

pub returns : goal.returns
returns c = number_all _ _ _ _ c.loop-p.invariant (omega (arith, all_places c.args.self.now.is)) (omega (arith, all_places c.args.self.now.is))
