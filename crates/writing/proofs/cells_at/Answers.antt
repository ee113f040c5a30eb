use Rattle.base.proofs.Puts.{put_none}
use Rattle.writing.proofs.Puts.{numbers_more}
use borrow.Author.Rules.{rules}
use Rattle.writing.proofs.cells_at.Goals as goal

pub loop-i-init : goal.loop-i-init
loop-i-init c = search (rules, put_none)

pub loop-i-preserved : goal.loop-i-preserved
loop-i-preserved c = search (rules, numbers_more)
