-- What is read of a plan into a scratch of 144 numbers. Assumes nothing.
use mathlib.Core.Path.{◌≡◌, sym, ap, ◌∙◌}
use mathlib.Core.List.{List}
use Prim.Native.Nat.{ℕ, ◌*◌, ◌<◌, ◌≤◌}
use native.Mathlib.Omega.{arith}
use lib.ListN.{length, take, replicate, length-replicate}
use Rattle.base.specs.Buffers.{written}
use Rattle.base.proofs.Buffers.{written_front, written_length}
use Rattle.form.specs.declared.Sizes.{Sizes}
use Rattle.weighted_arrays.specs.Plan.{array_at}
use Rattle.form.specs.Form.{decode}
use Rattle.reading.specs.Clauses.{Sized}
use Rattle.reading.proofs.Readings.{counts_length}
use Rattle.reading.proofs.Sizing.{arrays_are, cells_are, sized_few}

-- n numbers
pub scratch_room : (x : List ℕ) {scratch : List ℕ} {n : ℕ} → length x ≡ n → n ≤ 144 → scratch ≡ written x (replicate 144 0) → n ≤ length scratch
scratch_room x e h q =
    let zeros : length (replicate {A = ℕ} 144 0) ≡ 144 = length-replicate {A = ℕ} 144 0 in
    omega (arith, ap length q, written_length x (replicate 144 0) e (omega arith))

-- the counts of an array
module _ {s : Sizes} {b : List ℕ} (z : Sized s b) {k : ℕ} (h : k < s.arrays) {scratch : List ℕ}
    (e : scratch ≡ written (array_at (decode b).arrays k).counts (replicate 144 0)) where
  abbrev n : ℕ
  n = s.rows * s.columns

  long : length (array_at (decode b).arrays k).counts ≡ n
  long = counts_length b k (rw (arrays_are z) h) ∙ cells_are z

  pub counts_read : take n scratch ≡ (array_at (decode b).arrays k).counts
  counts_read = ap (take n) e ∙ written_front _ (replicate 144 0) long

  pub read_within : n ≤ length scratch
  read_within = scratch_room (array_at (decode b).arrays k).counts long (sized_few z) e

  pub read_length : n ≡ length (take n scratch)
  read_length = sym (ap length counts_read ∙ long)
