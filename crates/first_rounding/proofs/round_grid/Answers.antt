use Rattle.first_rounding.proofs.GridRoundings.{rows_fit, columns_fit, ready, bits_fit, rounded_grid}
use borrow.Author.Rules.{rules}
use Rattle.first_rounding.proofs.round_grid.Goals as goal

pub needs-rows-requires : goal.needs-rows-requires
needs-rows-requires c = search (rules, rows_fit)

pub needs-cols-requires : goal.needs-cols-requires
needs-cols-requires c = search (rules, columns_fit)

pub first-bits-requires : goal.first-bits-requires
first-bits-requires c = ready c.requires.grid c.requires.some c.quotients.ensures c.needs-rows.ensures c.needs-cols.ensures

pub counts-requires : goal.counts-requires
counts-requires c = record {
  fit = bits_fit c.requires.grid c.requires.some c.quotients.ensures c.needs-rows.ensures c.needs-cols.ensures c.first-bits.ensures;
  len = c.requires.len;
}

pub returns : goal.returns
returns c = record {
  low = c.quotients.ensures.downs;
  array = rounded_grid c.requires.grid c.requires.some c.quotients.ensures c.needs-rows.ensures c.needs-cols.ensures c.first-bits.ensures c.counts.ensures;
}
