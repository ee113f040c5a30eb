use Rattle.reading.proofs.Sizing.{sized_few}
use Rattle.records.proofs.Tallying.{compared, tally_is}
use borrow.Author.Rules.{rules}
use Rattle.records.proofs.tally.tally_fits.Goals as goal

pub read_table-requires : goal.read_table-requires
read_table-requires c = sized_few c.args.plan.now.laid_out

pub tally_met-requires : goal.tally_met-requires
tally_met-requires c = search (rules, compared)

pub returns : goal.returns
returns c = search (rules, tally_is)
