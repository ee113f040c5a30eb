use Rattle.reading.proofs.Sizing.{sized_few, sized_fits}
use Rattle.plan_text.proofs.Lines.{numbers_fit, numbers_inside, numbers_part, array_room, array_wrote}
use borrow.Author.Rules.{rules}
use Rattle.plan_text.proofs.print.print_array.Goals as goal

pub overflow_mul-cells : goal.overflow_mul-cells
overflow_mul-cells c = search (rules, sized_fits)

pub read_array-requires-clause-room : goal.read_array-requires-clause-room
read_array-requires-clause-room c = search (rules, sized_few)

pub overflow_add-numbers : goal.overflow_add-numbers
overflow_add-numbers c = search (rules, numbers_fit)

pub slice_bounds-numbers-end-2 : goal.slice_bounds-numbers-end-2
slice_bounds-numbers-end-2 c =
    numbers_inside c.args.plan.now.laid_out c.requires.there _ _ _ c.read_array.ensures c.copy_from_slice.ensures.len c.copy_from_slice.ensures.after
    (λ i h. let a = c.map.ensures.items.at i 0 0 h in search rules)

pub slice_bounds-print_numbers-end : goal.slice_bounds-print_numbers-end
slice_bounds-print_numbers-end c =
    numbers_part c.args.plan.now.laid_out c.requires.there _ _ _ c.read_array.ensures c.copy_from_slice.ensures.len c.copy_from_slice.ensures.after
    (λ i h. let a = c.map.ensures.items.at i 0 0 h in search rules) _

pub print_numbers-requires : goal.print_numbers-requires
print_numbers-requires c =
    array_room c.args.plan.now.laid_out c.requires.there _ _ _ c.read_array.ensures c.copy_from_slice.ensures.len c.copy_from_slice.ensures.after
    (λ i h. let a = c.map.ensures.items.at i 0 0 h in search rules)
    c.weight.ensures c.requires.room

pub returns : goal.returns
returns c =
    array_wrote c.args.plan.now.laid_out c.requires.there _ _ _ c.read_array.ensures c.copy_from_slice.ensures.len c.copy_from_slice.ensures.after
    (λ i h. let a = c.map.ensures.items.at i 0 0 h in search rules)
    c.weight.ensures c.print_numbers.ensures
