-- What is known of a plan that is laid out. Assumes nothing.
use Rattle.std.specs.Prelude.{◌≡◌, true, List, ℕ}
use Rattle.form.specs.declared.Sizes.{Sizes}
use Rattle.form.specs.Form.{sizes_of, laid_out}

-- a plan that is laid out, with its sizes
pub record Sized (s : Sizes) (b : List ℕ) : Type 0 where
  pub laid_out_is : laid_out b ≡ true
  pub sizes : s ≡ sizes_of b
