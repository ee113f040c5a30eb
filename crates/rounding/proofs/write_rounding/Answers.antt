use mathlib.Core.Path.{refl}
use Rattle.first_rounding.proofs.Small.{table_grid}
use Rattle.rounding.proofs.Calls.{cells_ready, rounding_written}
use Rattle.rounding.proofs.write_rounding.Goals as goal

pub round_grid-requires : goal.round_grid-requires
round_grid-requires c = record {
  grid = table_grid c.args.t.now.accepted _ c.entries-e.ensures;
  some = c.args.t.now.accepted.some_denominator;
  low_len = refl;
  len = refl;
}

pub write_cells-requires : goal.write_cells-requires
write_cells-requires c = cells_ready c.args.t.now.accepted c.entries-e.ensures c.round_grid.ensures.array _ c.requires

pub returns : goal.returns
returns c = rounding_written c.args.t.now.accepted c.entries-e.ensures c.round_grid.ensures.array c.requires c.write_cells.ensures
