-- A lifted covariance, and its bounds. Assumes nothing.
use Prim.Native.Nat.{ℕ, ◌*◌, ◌≤◌}
use native.Mathlib.Nat.{mul-le-mul}
use native.Mathlib.Omega.{arith}
use Rattle.covariances.specs.Covariance.{lift}
use Rattle.covariances.specs.Clauses.{lifted, Liftable}

-- a lifted covariance
module _ {d s x y : ℕ} (h : Liftable d s x y) where
  pub scaled_small : d * s ≤ lift
  scaled_small = mul-le-mul h.denominator h.products

  pub product_small : x * y ≤ lift
  product_small = mul-le-mul h.first h.second

  pub lifted_small : lifted d s x y ≤ 2 * lift
  lifted_small = omega (arith, scaled_small)
