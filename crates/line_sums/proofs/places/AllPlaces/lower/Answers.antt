use Rattle.line_sums.proofs.Fixes.{fix_zero, fix_one, places_one, stuck_at, moved_to}
use Rattle.line_sums.proofs.places.AllPlaces.lower.Goals as goal

pub invariant_of-self-then-is_none : goal.invariant_of-self-then-is_none
invariant_of-self-then-is_none c =
    let r = c.requires in
    let none = stuck_at _ _ _ _ c.augment.result c.augment.ensures c.is_none.ensures c.if-is_none.true in
    record { single = rw none.0 (places_one c.args.self.now.single r.row_inside r.column_inside r.is_one c.without.ensures c.with.ensures) }

pub returns-then-is_none : goal.returns-then-is_none
returns-then-is_none c =
    let r = c.requires in
    let d = stuck_at _ _ _ _ c.augment.result c.augment.ensures c.is_none.ensures c.if-is_none.true in
    rw d.0 (fix_one c.args.self.now.single r.row_inside r.column_inside r.is_one c.without.ensures c.with.ensures c.single.ensures d.1)

pub returns-else-is_none : goal.returns-else-is_none
returns-else-is_none c =
    let r = c.requires in
    let d = moved_to _ _ _ _ c.augment.result c.augment.ensures c.is_none.ensures c.if-is_none.false in
    fix_zero c.args.self.now.single r.row_inside r.column_inside r.is_one c.without.ensures c.single.ensures d.1.0 d.1.1
