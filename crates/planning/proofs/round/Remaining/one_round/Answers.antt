use native.Mathlib.Omega.{arith}
use Rattle.planning.proofs.GridRounds.{is_grid, weight_within, rest_held}
use Rattle.planning.proofs.round.Remaining.one_round.Goals as goal

pub one_round-x-requires : goal.one_round-x-requires
one_round-x-requires c =
    let s = c.args.self.now in
    record { grid = is_grid s.table; some = c.requires; small = s.small; len = search }

pub overflow_sub-self : goal.overflow_sub-self
overflow_sub-self c = weight_within c.requires c.args.self.now.table c.one_round-x.ensures.round

pub invariant_of-self : goal.invariant_of-self
invariant_of-self c = record { table = rest_held c.requires c.args.self.now.table c.one_round-x.ensures.round c.one_round-x.ensures.lost; small = omega (arith, c.args.self.now.small) }

pub returns-clause-weight : goal.returns-clause-weight
returns-clause-weight c = omega (arith, weight_within c.requires c.args.self.now.table c.one_round-x.ensures.round)
