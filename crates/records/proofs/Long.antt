-- What a record long enough means. Assumes nothing.
use mathlib.Core.Path.{◌≡◌}
use mathlib.Core.Bool.{true}
use Prim.Native.Nat.{◌≤◌}
use lib.ListN.{length}
use lib.Dec.{leb}
use borrow.Author.Tests.{leb-true}
use Rattle.base.proofs.Lists.{and_left, and_right}
use Rattle.weighted_arrays.specs.Plan.{Plan, cell_count}
use Rattle.records.specs.Record.{CampaignRecord, room_for}
use Rattle.bits.specs.Bits.{bit_bytes}

module _ (p : Plan) (s : CampaignRecord) (room : room_for p s ≡ true) where
  pub room_bits : bit_bytes p.denominator ≤ length s.bits
  room_bits = leb-true _ _ (and_left (leb (bit_bytes p.denominator) (length s.bits)) (leb (cell_count p) (length s.tally)) room)

  pub room_tally : cell_count p ≤ length s.tally
  room_tally = leb-true _ _ (and_right (leb (bit_bytes p.denominator) (length s.bits)) (leb (cell_count p) (length s.tally)) room)
