use native.Mathlib.Omega.{arith}
use borrow.Author.Rules.{rules}
use Rattle.std.proofs.lemmas.Bool.Decides.{nat_tests}
use Rattle.records.proofs.Fitting.{spared, numbered, numbers_room, numbers_part, few_taken, spare_set, fits_by}
use Rattle.records.proofs.fit.fits.Goals as goal

pub taken_numbers-numbers-requires : goal.taken_numbers-numbers-requires
taken_numbers-numbers-requires c = search (rules, numbered)

pub spare_clear-requires : goal.spare_clear-requires
spare_clear-requires c = search (rules, spared)

pub returns-then-not-spare_clear : goal.returns-then-not-spare_clear
returns-then-not-spare_clear c = search (rules, spare_set)

pub slice_bounds-numbers-end : goal.slice_bounds-numbers-end
slice_bounds-numbers-end c = search (rules, numbers_room)

pub slice_bounds-all_taken-end : goal.slice_bounds-all_taken-end
slice_bounds-all_taken-end c = search (rules, numbers_part)

pub all_taken-requires : goal.all_taken-requires
all_taken-requires c = search (rules, few_taken)

pub returns-then-within : goal.returns-then-within
returns-then-within c = grind (arith, nat_tests, fits_by _ c.args.plan.now.opens c.requires c.taken_numbers-numbers.ensures c.args.record.taken c.args.record.rounds)

pub returns-else-within : goal.returns-else-within
returns-else-within c = grind (arith, nat_tests, fits_by _ c.args.plan.now.opens c.requires c.taken_numbers-numbers.ensures c.args.record.taken c.args.record.rounds)
