-- The lines of a stored plan, and room for them. Assumes nothing.
use Rattle.std.specs.Prelude.{◌≡◌, true, List, [], ℕ, ◌+◌, ◌≤◌, length, get_or}
use Rattle.weighted_arrays.specs.Plan.{Plan}
use Rattle.form.specs.Form.{laid_out}
use Rattle.plan_text.specs.Text.{line_numbers, max_listing}

-- the numbers of line k of a plan's listing
abbrev pub plan_line : Plan → ℕ → List ℕ
plan_line p k = get_or (line_numbers p) k []

-- a plan that is laid out, and room for any listing
pub record ListableAt (b out : List ℕ) (at : ℕ) : Type 0 where
  pub laid_out_is : laid_out b ≡ true
  pub room : at + max_listing ≤ length out
