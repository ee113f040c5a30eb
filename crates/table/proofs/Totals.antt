-- Laws on the entries of a table. Assumes nothing.
use mathlib.Core.Path.{◌≡◌, refl, ◌∙◌}
use mathlib.Core.List.{List, [], ◌∷◌}
use Prim.Native.Nat.{ℕ, ◌+◌, ◌*◌, ◌<◌, ◌≤◌}
use native.Mathlib.Nat.{add-zero, mul-le-mul, lt_of_le_of_lt, mul-one}
use native.Mathlib.Omega.{arith}
use lib.Arith.{digits_lt}
use lib.Dec.{lit<}
use lib.ListN.{length, get_or}
use mir.Val.{Fits}
use mir.Syntax.{w64}
use Rattle.base.specs.Lists.{tabulate, sum, sum_to}
use Rattle.table.specs.Table.{cell_places, total}
use Rattle.table.specs.Clauses.{Shape, Reach}
use Rattle.base.proofs.Sums.{sum_map}

-- a total over places that a function lists
pub total_sum : (g : List ℕ) (n : ℕ) (f : ℕ → ℕ) → total g (tabulate n f) ≡ sum_to n (λ k. get_or g (f k) 0)
unfolding total
total_sum g n f = sum_map (λ k. get_or g k 0) n f

-- the total of one place, and of a cell's own
pub total_one : (g : List ℕ) (i : ℕ) → total g (i ∷ []) ≡ get_or g i 0
unfolding total sum
total_one g i = add-zero (get_or g i 0)

pub total_cell : (g : List ℕ) (i : ℕ) → total g (cell_places i) ≡ get_or g i 0
unfolding sum_to
total_cell g i = total_sum g 1 _ ∙ (let e : i + 0 * 1 ≡ i = omega arith in rw e (omega arith))

pub total_none : (g : List ℕ) → total g [] ≡ 0
unfolding total sum
total_none g = refl

-- products of sizes, and places, are small
pub small_product : {r c : ℕ} → r ≤ 12 → c ≤ 12 → Fits w64 (r * c)
small_product h k = record { fits = lt_of_le_of_lt (mul-le-mul h k) (lit< tt) }

-- the places of each kind of entry lie among the cells
module _ {r c : ℕ} {g : List ℕ} (s : Shape r c g) where
  few : length g ≤ 144
  few = omega (arith, s.cells, mul-le-mul s.rows s.columns)

  pub reach_cell : (p q : ℕ) → p < r → q < c → Reach (p * c + q) 1 1 (length g)
  reach_cell p q hp hq = record {
    step_small = omega arith;
    count_small = omega arith;
    room = few;
    inside = λ k h. omega (arith, s.cells, digits_lt hp hq);
  }

  pub reach_one : (k : ℕ) → k < r * c → Reach k 1 1 (length g)
  reach_one k h = record {
    step_small = omega arith;
    count_small = omega arith;
    room = few;
    inside = λ i l. omega (arith, s.cells);
  }

  pub reach_row : (p : ℕ) → p < r → Reach (p * c) 1 c (length g)
  reach_row p hp = record {
    step_small = omega arith;
    count_small = omega (arith, s.columns);
    room = few;
    inside = λ k h. omega (arith, s.cells, digits_lt hp h, mul-one k);
  }

  pub reach_column : (q : ℕ) → q < c → Reach q c r (length g)
  reach_column q hq = record {
    step_small = s.columns;
    count_small = omega (arith, s.rows);
    room = few;
    inside = λ k h. omega (arith, s.cells, digits_lt h hq);
  }

  pub reach_all : Reach 0 1 (r * c) (length g)
  reach_all = record {
    step_small = omega arith;
    count_small = omega (arith, s.cells, few);
    room = few;
    inside = λ k h. omega (arith, s.cells, mul-one k);
  }
