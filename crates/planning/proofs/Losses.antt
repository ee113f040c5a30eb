-- What a round takes off a table. Assumes nothing.
use mathlib.Core.Path.{◌≡◌, sym}
use mathlib.Core.List.{List, [], ◌∷◌, map}
use Prim.Native.Nat.{ℕ, ◌+◌, ◌-◌, ◌*◌, ◌≤◌}
use native.Mathlib.Nat.{mul-add, mul-zero}
use native.Mathlib.Omega.{arith}
use lib.ListN.{length, get_or}
use Rattle.base.specs.Lists.{sum}
use Rattle.base.proofs.Zips.{zip_length, zip_at}
use Rattle.table.specs.Table.{total}
use Rattle.planning.specs.Rounds.{without}

module _ (x : ℕ) (n g : List ℕ) (e : length n ≡ length g) where
  pub without_length : length (without x n g) ≡ length g
  unfolding without
  without_length = zip_length _ g n (sym e)

  pub without_at : (i : ℕ) → get_or (without x n g) i 0 ≡ get_or g i 0 - x * get_or n i 0
  unfolding without
  without_at i = zip_at _ (omega (arith, mul-zero x)) g n (sym e) i

-- for any places
module _ (x : ℕ) (n g : List ℕ) (e : length n ≡ length g) (enough : (i : ℕ) → x * get_or n i 0 ≤ get_or g i 0) where
  pub without_total : (s : List ℕ) → total (without x n g) s + x * total n s ≡ total g s
  unfolding total sum
  without_total [] = omega (arith, mul-zero x)
  without_total (i ∷ s) =
      omega (arith, without_total s, without_at x n g e i, enough i, mul-add x (get_or n i 0) (sum (map (λ k. get_or n k 0) s)))
