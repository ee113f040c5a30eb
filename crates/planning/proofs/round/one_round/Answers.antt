use Rattle.planning.proofs.GridRounds.{bears, round_done, grid_length}
use Rattle.planning.proofs.round.one_round.Goals as goal

pub lose-requires : goal.lose-requires
lose-requires c = bears c.requires.some c.requires.grid c.next_array-x.ensures (grid_length c.requires.grid)

pub returns-clause-round : goal.returns-clause-round
returns-clause-round c = round_done c.requires.some c.requires.grid c.next_array-x.ensures c.lose.ensures
