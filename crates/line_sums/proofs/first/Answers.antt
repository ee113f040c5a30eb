use borrow.Author.Rules.{rules}
use Rattle.line_sums.proofs.Fixes.{places_free}
use Rattle.line_sums.proofs.FirstMatrices.{apart_start, feasible_start, first_matrix}
use Rattle.line_sums.proofs.first.Goals as goal

pub invariant_of-free : goal.invariant_of-free
invariant_of-free c = record { apart = apart_start c.requires.caps c.requires.solvable c.free_places.ensures c.new-lack.ensures }

pub fill-requires : goal.fill-requires
fill-requires c = record { lack_len = search rules; feasible = feasible_start c.requires.caps c.requires.solvable c.free_places.ensures c.new-lack.ensures }

pub invariant_of-places : goal.invariant_of-places
invariant_of-places c = record { single = places_free c.fill.new.free.apart }

pub returns : goal.returns
returns c =
    let s = c.requires in
    first_matrix s.caps s.solvable c.free_places.ensures c.new-lack.ensures c.fill.ensures c.fix_all.new.self.single c.fix_all.ensures c.bytes.ensures
