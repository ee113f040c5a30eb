use Rattle.limit_search.proofs.Searching.{place_is_first}
use borrow.Author.Rules.{rules}
use Rattle.limit_search.proofs.first_place.Goals as goal

pub returns : goal.returns
returns c = search (rules, place_is_first)
