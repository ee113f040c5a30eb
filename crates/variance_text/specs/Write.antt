-- Room for a line, and what printing the text of a plan promises. Assumes nothing.
use Rattle.std.specs.Prelude.{◌≡◌, List, ℕ}
use Rattle.printing.specs.Write.{Wrote}
use Rattle.variance_text.specs.declared.Printed.{Printed}
use Rattle.variance_text.specs.VarianceText.{plan_text, goes_on}

-- the longest line: a number of 20 digits, three numerators, each with a space, a sign and 20 digits, and byte 10
abbrev pub max_line : ℕ
max_line = 87

-- the text of plan number n is written from the start on, and it is told whether the run goes on
pub record Prints (n : ℕ) (b out after : List ℕ) (r : Printed) : Type 0 where
  pub wrote : Wrote out 0 (plan_text n b) after r.written
  pub goes_on_is : r.go_on ≡ goes_on b
