use Rattle.writing.proofs.Puts.{put_entry}
use borrow.Author.Rules.{rules}
use Rattle.writing.proofs.contents_entry.Goals as goal

pub returns : goal.returns
returns c = search (rules, put_entry)
