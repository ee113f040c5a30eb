-- What holds of the plan of every accepted table (specification, "The plan" and "What every campaign is held to"; Ernst 1981, Section 3). Assumes nothing.
use Rattle.std.specs.Prelude.{◌≡◌, true, List, map, ℕ, ◌+◌, ◌*◌, ◌≤◌, length, leb}
use Rattle.base.specs.Lists.{sum, all}
use Rattle.table.specs.Table.{total, max_arrays}
use Rattle.is_rounding.specs.Rounding.{two_ways, is_rounding}
use Rattle.form.specs.Form.{min_length, max_length, plan_length, decode}
use Rattle.opening.specs.Open.{Opens}
use Rattle.planning.specs.Rounds.{plan_of, AreRounds, not_whole}
use Rattle.plan.specs.Call.{plan_bytes}

pub record Promises (r c d : ℕ) (g : List ℕ) : Type 0 where
  -- each array is the first, in the stated order, of all controlled roundings of what is still to be given out, and has the weight of its round
  pub rounds : AreRounds r c d g (plan_of r c d g).arrays
  -- the weights are at least 1 and add up to D
  pub positive : all (λ a. leb 1 a.weight) (plan_of r c d g).arrays ≡ true
  pub weights : sum (map (λ a. a.weight) (plan_of r c d g).arrays) ≡ d
  -- the weighted counts add up to the table: for any places, so for every cell, row, column and the grand total
  pub sums : (s : List ℕ) → sum (map (λ a. a.weight * total a.counts s) (plan_of r c d g).arrays) ≡ total g s
  -- every array is a controlled rounding of the table itself
  pub rounded : all (λ a. is_rounding (two_ways r c) d g a.counts) (plan_of r c d g).arrays ≡ true
  -- at most one array more than entries that are not whole, so at most 170
  pub few : length (plan_of r c d g).arrays ≤ not_whole r c d g + 1
  pub most : length (plan_of r c d g).arrays ≤ max_arrays
  -- the stored plan has the length of its form, from 30 to 50,912 bytes
  pub len : length (plan_bytes r c d g) ≡ plan_length r c (length (plan_of r c d g).arrays)
  pub len_low : min_length ≤ length (plan_bytes r c d g)
  pub len_high : length (plan_bytes r c d g) ≤ max_length
  -- it opens, to this plan
  pub opening : Opens (plan_bytes r c d g)
  pub decodes : decode (plan_bytes r c d g) ≡ plan_of r c d g
