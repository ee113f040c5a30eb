-- What `division::claims` states of no other quotient and rest is a lemma of this folder.
use Rattle.division.proofs.Meanings.{only_parts}
use Rattle.division.proofs.claims.Goals as goal

pub returns-clause-only : goal.returns-clause-only
returns-clause-only c = only_parts
