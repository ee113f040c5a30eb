-- What the loops over entries rounded down and up keep. Assumes nothing.
use mathlib.Core.Path.{◌≡◌, ap}
use mathlib.Core.List.{List}
use Prim.Native.Nat.{ℕ, ◌+◌, ◌*◌, ◌≤◌, ◌<◌}
use native.Mathlib.Omega.{arith}
use lib.ListN.{length, get_or}
use Rattle.base.proofs.SumLoops.{Summed, summed_more, summed_all}
use Rattle.base.proofs.Listing.{ListedTo, listed_all}
use Rattle.table.specs.Whole.{down, up, gap}
use Rattle.first_rounding.specs.Clauses.{Quotients, line_sum, LineFits}

-- the parts of the first k entries
pub record PartsTo (w : ℕ) (e low high cap : List ℕ) (k : ℕ) : Type 0 where
  pub downs : ListedTo 169 (λ i. down w (get_or e i 0)) low k
  pub ups : ListedTo 169 (λ i. up w (get_or e i 0)) high k
  pub gaps : ListedTo 169 (λ i. gap w (get_or e i 0)) cap k

pub parts_all : {w : ℕ} {e low high cap : List ℕ} {k : ℕ} → PartsTo w e low high cap k → 169 ≤ k → Quotients w e low high cap
parts_all p h = record { downs = listed_all p.downs h; ups = listed_all p.ups h; gaps = listed_all p.gaps h }

-- a sum along a line
abbrev pub LineTo : List ℕ → ℕ → ℕ → ℕ → ℕ → Type 0
LineTo l start step k s = Summed (λ i. get_or l (start + i * step) 0) 9437040002 k s

pub line_more : {l : List ℕ} (start step : ℕ) {k s at : ℕ} → LineTo l start step k s → LineFits l start step → at ≡ start + k * step → LineTo l start step (k + 1) (s + get_or l at 0)
line_more {l} start step {at = at} t a e = summed_more t (get_or l at 0) (ap (λ (n : ℕ). get_or l n 0) e) (omega (arith, a.small at))

pub line_all : (l : List ℕ) (start step : ℕ) {k s : ℕ} → LineTo l start step k s → k ≤ 12 → 12 ≤ k → s ≡ line_sum l start step
unfolding line_sum
line_all l start step t h g = (summed_all t h g).0

-- the needs of the first i lines
pub record NeedsTo (low high : List ℕ) (next step : ℕ) (n : List ℕ) (i : ℕ) : Type 0 where
  pub len : length n ≡ 13
  pub is : (j : ℕ) → j < i → get_or n j 0 + line_sum low (j * next) step ≡ get_or high (j * next + 12 * step) 0
