use borrow.Author.Rules.{rules}
use Rattle.line_sums.proofs.Fills.{found, found_lacks, row_step}
use Rattle.line_sums.proofs.fill.fill_row.Goals as goal

pub unwrap-column-requires : goal.unwrap-column-requires
unwrap-column-requires c = found _ _ _ _ c.loop-k.invariant.1 c.loop-k.lack.lacking c.augment.result c.requires.inside c.loop-k-test.true c.requires.room c.augment.ensures

pub take-requires : goal.take-requires
take-requires c = found_lacks _ _ _ _ c.loop-k.invariant.1 c.loop-k.lack.lacking c.augment.ensures c.unwrap-column.ensures

pub loop-k-preserved : goal.loop-k-preserved
loop-k-preserved c = (search rules, row_step _ _ _ _ c.loop-k.invariant.1 c.loop-k.lack.lacking c.augment.ensures c.unwrap-column.ensures c.take.ensures)
