-- Refusals and their numbers (specification, "Refusals"). Assumes nothing.
use Rattle.std.specs.Prelude.{ℕ}
use Rattle.refusals.specs.declared.Refusal.{Refusal}
use Rattle.refusals.specs.declared.Refusal.TheVariants.{Size, Denominator, CellCount, LargeCell, Layout, Content, Buffer, Number, Record, Taken, Multiple, PooledCell, Rounds, Array, WalkSize, NotRounding}

-- the number of each refusal
abbrev pub number_of : Refusal → ℕ
number_of Size = 1
number_of Denominator = 2
number_of CellCount = 3
number_of LargeCell = 4
number_of Layout = 5
number_of Content = 6
number_of Buffer = 7
number_of Number = 8
number_of Record = 9
number_of Taken = 10
number_of Multiple = 11
number_of PooledCell = 12
number_of Rounds = 13
number_of Array = 14
number_of WalkSize = 15
number_of NotRounding = 16
