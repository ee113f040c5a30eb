-- The numbers of refusals: below every length that a call returns in their place, and each at its place in the orders. Assumes nothing.
use mathlib.Core.Path.{◌≡◌, refl}
use Prim.Native.Nat.{◌<◌}
use native.Mathlib.Omega.{arith}
use lib.ListN.{get_or}
use Rattle.refusals.specs.declared.Refusal.{Refusal}
use Rattle.refusals.specs.declared.Refusal.TheVariants.{Size, Denominator, CellCount, LargeCell, Layout, Content, Buffer, Number, Record, Taken, Multiple, PooledCell, Rounds, Array, WalkSize, NotRounding}
use Rattle.refusals.specs.Numbers.{number_of}
use Rattle.refusals.specs.Places.{order, order_on_plan, place_in}

pub number_small : (x : Refusal) → number_of x < 30
number_small Size = omega arith
number_small Denominator = omega arith
number_small CellCount = omega arith
number_small LargeCell = omega arith
number_small Layout = omega arith
number_small Content = omega arith
number_small Buffer = omega arith
number_small Number = omega arith
number_small Record = omega arith
number_small Taken = omega arith
number_small Multiple = omega arith
number_small PooledCell = omega arith
number_small Rounds = omega arith
number_small Array = omega arith
number_small WalkSize = omega arith
number_small NotRounding = omega arith

pub at_place : (x : Refusal) → (get_or order (place_in order x) 0 ≡ number_of x) × (get_or order_on_plan (place_in order_on_plan x) 0 ≡ number_of x)
unfolding place_in
at_place Size = (refl, refl)
at_place Denominator = (refl, refl)
at_place CellCount = (refl, refl)
at_place LargeCell = (refl, refl)
at_place Layout = (refl, refl)
at_place Content = (refl, refl)
at_place Buffer = (refl, refl)
at_place Number = (refl, refl)
at_place Record = (refl, refl)
at_place Taken = (refl, refl)
at_place Multiple = (refl, refl)
at_place PooledCell = (refl, refl)
at_place Rounds = (refl, refl)
at_place Array = (refl, refl)
at_place WalkSize = (refl, refl)
at_place NotRounding = (refl, refl)
