use borrow.Author.Rules.{rules}
use Rattle.records.proofs.Fitting.{arrays_end, array_place, array_scaled, along_none, along_room, along_fits, along_more, along_all}
use Rattle.records.proofs.fit.taken_numbers.Goals as goal

pub loop-k-init : goal.loop-k-init
loop-k-init c = search (rules, along_none)

pub weight-w-requires : goal.weight-w-requires
weight-w-requires c = search (rules, arrays_end)

pub bits_set-requires : goal.bits_set-requires
bits_set-requires c = search (rules, arrays_end, along_room)

pub offset_bounds-taken-k : goal.offset_bounds-taken-k
offset_bounds-taken-k c = search (rules, arrays_end, array_scaled)

pub bounds-taken-k : goal.bounds-taken-k
bounds-taken-k c = search (rules, arrays_end, array_place)

pub overflow_add-at : goal.overflow_add-at
overflow_add-at c = search (rules, arrays_end, along_fits)

pub loop-k-preserved : goal.loop-k-preserved
loop-k-preserved c = search (rules, arrays_end, along_more)

pub returns : goal.returns
returns c = search (rules, arrays_end, along_all)
