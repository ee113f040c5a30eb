use Rattle.planning.proofs.GridRounds.{rounded, next_array_is}
use Rattle.planning.proofs.round.next_array.Goals as goal

pub limits-requires : goal.limits-requires
limits-requires c =
    let s = c.requires in
    record { rounded = rounded s.some s.grid s.small c.round_grid.ensures.array; quotients = c.round_grid.ensures.low; len = s.limits_room }

pub returns : goal.returns
returns c = next_array_is c.requires.some c.requires.grid c.round_grid.ensures.array c.limits.ensures c.smallest.ensures
