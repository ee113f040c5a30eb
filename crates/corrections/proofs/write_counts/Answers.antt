-- What is left over of the cells is a table, and the counts are written from its first rounding.
use mathlib.Core.Path.{refl}
use Rattle.corrections.proofs.Rounded.{few, rests_ready, left_table, counts_ready, counts_written}
use Rattle.corrections.proofs.write_counts.Goals as goal

pub remainders-requires : goal.remainders-requires
remainders-requires c = rests_ready _ _ _ _ c.requires.accepted refl

pub invariant_of-left : goal.invariant_of-left
invariant_of-left c = record { accepted = left_table _ _ _ _ c.requires.accepted _ refl c.remainders.ensures }

pub write_rounding-requires : goal.write_rounding-requires
write_rounding-requires c = few _ _ _ _ c.requires.accepted

pub counts-requires : goal.counts-requires
counts-requires c =
    counts_ready _ _ _ _ c.requires.accepted _ refl c.remainders.ensures _ refl c.write_rounding.ensures c.requires.room

pub returns : goal.returns
returns c =
    counts_written _ _ _ _ c.requires.accepted _ refl c.remainders.ensures _ refl c.write_rounding.ensures _ c.counts.ensures
