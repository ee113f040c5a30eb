use Rattle.writing.proofs.Puts.{numbers_taken}
use Rattle.writing.proofs.Writings.{plan_written}
use Rattle.writing.proofs.write.Goals as goal

pub returns : goal.returns
returns c =
    plan_written _ _ _ _ c.requires _ _ _ _ _ _ c.head.ensures c.contents.ensures c.body_at.ensures c.cells_at.ensures c.body_at-2.ensures
    (rw (numbers_taken 2 _ _ c.requires.counted) at c.counts_at.ensures)
