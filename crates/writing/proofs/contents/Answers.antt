use mathlib.Core.Path.{refl}
use Rattle.base.proofs.Puts.{put_none}
use Rattle.writing.proofs.Writings.{entries_more}
use borrow.Author.Rules.{rules}
use Rattle.writing.proofs.contents.Goals as goal

pub loop-i-init : goal.loop-i-init
loop-i-init c = search (rules, put_none)

pub loop-i-preserved : goal.loop-i-preserved
loop-i-preserved c = entries_more c.requires c.loop-i-test.true refl _ _ c.loop-i.invariant _ _ c.amount.ensures c.body_at.ensures c.contents_entry.ensures
