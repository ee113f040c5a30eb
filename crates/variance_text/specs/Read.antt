-- How much is read of an input for each plan (specification, "The variance program"). Assumes nothing.
use Rattle.std.specs.Prelude.{◌≡◌, List, ℕ, ◌≤◌, length, take}
use Rattle.form.specs.Form.{max_length}
use Rattle.variance_text.specs.VarianceText.{to_read}

-- how long a plan is that begins with some bytes, and the bounds of it
pub record PlanLength (b : List ℕ) (r : ℕ) : Type 0 where
  pub is : r ≡ to_read b
  pub least : 8 ≤ r
  pub most : r ≤ max_length

-- n bytes lie in a buffer from its start on, and are no more than belong to a plan that begins with the first eight of them
pub record HasRead (buffer : List ℕ) (n : ℕ) : Type 0 where
  pub inside : n ≤ length buffer
  pub no_more : n ≤ to_read (take 8 (take n buffer))
