use Rattle.reasons.proofs.Setting.{place_small, place_scaled, reason_told}
use Rattle.reasons.proofs.find.reason_of.Goals as goal

pub entry_at-requires : goal.entry_at-requires
entry_at-requires c = place_small c.args.left.now.table _ _ c.first_place-k.ensures

pub offset_bounds-left-k : goal.offset_bounds-left-k
offset_bounds-left-k c = place_scaled c.args.left.now.table _ _ c.first_place-k.ensures

pub bounds-left-k : goal.bounds-left-k
bounds-left-k c = place_small c.args.left.now.table _ _ c.first_place-k.ensures

pub offset_bounds-n-k : goal.offset_bounds-n-k
offset_bounds-n-k c = place_scaled c.args.left.now.table _ _ c.first_place-k.ensures

pub bounds-n-k : goal.bounds-n-k
bounds-n-k c = place_small c.args.left.now.table _ _ c.first_place-k.ensures

pub returns : goal.returns
returns c = λ g shape is. reason_told c.next_array-x.ensures c.requires g shape is c.first_place-k.ensures c.entry_at.ensures c.direction.ensures
