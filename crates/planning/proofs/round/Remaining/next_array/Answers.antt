use Rattle.planning.proofs.GridRounds.{is_grid}
use Rattle.planning.proofs.round.Remaining.next_array.Goals as goal

pub next_array-requires : goal.next_array-requires
next_array-requires c =
    let s = c.args.self.now in
    record { grid = is_grid s.table; some = c.requires; small = s.small; counts_room = search; limits_room = search }
