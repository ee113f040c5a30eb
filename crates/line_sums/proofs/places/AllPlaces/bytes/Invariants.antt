use Prim.Native.Nat.{◌*◌, ◌≤◌}
use Rattle.line_sums.specs.Clauses.{BytesOf}
use Rattle.line_sums.proofs.places.AllPlaces.bytes.Given as goal

abbrev pub invariant-loop-p : goal.invariant-loop-p
invariant-loop-p l = (l.p ≤ 13) × BytesOf l.self.free.down l.self.one (l.p * 13) l.b
