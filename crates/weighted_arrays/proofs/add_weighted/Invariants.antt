use Prim.Native.Nat.{◌<◌, ◌≤◌}
use mathlib.Core.Path.{◌≡◌}
use lib.ListN.{length}
use Rattle.weighted_arrays.proofs.Weighting.{IncreasedTo}
use Rattle.weighted_arrays.proofs.add_weighted.Given as goal

abbrev pub invariant-loop-i : goal.invariant-loop-i
invariant-loop-i l = (l.i ≤ l.i-end) × (l.i-end ≡ length l.counts) × (l.f ≡ l.factor) × (l.f < 4294967296) × IncreasedTo l.factor l.counts l.initial.sums l.sums l.i
