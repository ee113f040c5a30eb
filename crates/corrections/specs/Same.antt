-- On a table without a cell below zero the call answers as "rounding" does (specification, "The rounding of corrections"). Assumes nothing.
use Rattle.std.specs.Prelude.{List, map, ℕ, ℤ, pos, length, Option}
use Rattle.base.specs.Buffers.{written}
use Rattle.refusals.specs.declared.Refusal.{Refusal}
use Rattle.refusals.specs.Due.{after}
use Rattle.first_rounding.specs.First as natural
use Rattle.rounding.specs.Call as natural-call
use Rattle.corrections.specs.Rounding.{first_rounding}
use Rattle.corrections.specs.Call.{round_refusal}

-- the whole answer of a call: what is due, and the buffer as it is left
pub record Reply : Type 0 where
  pub due : Option Refusal
  pub left : List ℤ

abbrev pub reply_of : ℕ → ℕ → ℕ → List ℤ → List ℤ → Reply
reply_of r c d g buffer =
    let o = round_refusal r c d g (length buffer) in
    record { due = o; left = after o (written (first_rounding r c d g) buffer) buffer }

-- that of the call "rounding", its counts read as numbers with a sign
abbrev pub natural_reply : ℕ → ℕ → ℕ → List ℕ → List ℕ → Reply
natural_reply r c d g buffer =
    let o = natural-call.round_refusal r c d g (length buffer) in
    record { due = o; left = map pos (after o (written (natural.first_rounding r c d g) buffer) buffer) }
