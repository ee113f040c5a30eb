-- What the plan of every accepted table serves for: demand 3, with its last sentence (specification, "What every campaign is held to"). Assumes nothing.
use Rattle.std.specs.Prelude.{◌≡◌, List, ℕ, ◌+◌, ◌≤◌, length, take, Result, Ok}
use Rattle.form.specs.Form.{decode}
use Rattle.opening.specs.Open.{Opens}
use Rattle.planning.specs.Rounds.{plan_of, not_whole}
use Rattle.demands.specs.Claim.{Held}
use Rattle.refusals.specs.declared.Refusal.{Refusal}

-- an accepted table that was planned into a buffer with room: the answer, and what the buffer holds
pub record Served (r c d : ℕ) (g : List ℕ) (answer : Result ℕ Refusal) (buffer : List ℕ) : Type 0 where
  -- the call answers with a length, and as many bytes of the buffer are the plan
  pub size : ℕ
  pub returned : answer ≡ Ok size
  -- they open, to the plan of this table
  pub opens : Opens (take size buffer)
  pub plan : decode (take size buffer) ≡ plan_of r c d g
  -- with at most one array more than entries that are not whole
  pub few : length (decode (take size buffer)).arrays ≤ not_whole r c d g + 1
  -- and every list of draws on them is held to the claim
  pub campaigns : Held (take size buffer)
