use Prim.Native.Nat.{◌+◌, ◌*◌, ◌≤◌}
use Rattle.line_sums.specs.Clauses.{BytesOf}
use Rattle.line_sums.proofs.places.AllPlaces.write_row.Given as goal

abbrev pub invariant-loop-q : goal.invariant-loop-q
invariant-loop-q l = (l.q ≤ 13) × BytesOf l.self.free.down l.self.one (l.row * 13 + l.q) l.b
